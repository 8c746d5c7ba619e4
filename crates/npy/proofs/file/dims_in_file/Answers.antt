-- `npy::file::dims_in_file` meets its contract.
use Prim.Native.Nat.{◌*◌}
use mathlib.Core.Path.{◌≡◌, sym, ap, ◌∙◌}
use mathlib.Core.Bool.{true, false}
use mathlib.Core.List.{List}
use lib.Dec.{ltb}
use lib.ListN.{length}
use borrow.Author.Tests.{eq-eqb, ne_eqb}
use Rattle.prefilter.specs.Volume.{count_of}
use Rattle.npy.specs.File.{data_of, dims_of, has_header, span_of, largest_span}
use Rattle.npy.proofs.Deciding.{given, not_given, give, give_none, headed, large_span, data_there, no_header, by_data}
use Rattle.npy.proofs.file.dims_in_file.Goals.{After-small_span, else-small_span-via-then-small_span+else-data_of-d, else-small_span-via-else-small_span}
use Rattle.npy.proofs.file.dims_in_file.Goals as goal

pub returns-in_err-d : goal.returns-in_err-d
returns-in_err-d c =
    let file = c.args.file.now in
    let none : has_header file ≡ false = not_given (has_header file) (dims_of file) (sym c.dims_in_header.ensures ∙ c.in_err-d.was) in
    c.from_residual.ensures ∙ give_none (dims_of file) (sym (no_header file none))

-- the header that is there, its lengths, and whether their span is small
header : (c : After-small_span) → let file = c.args.file.now in (has_header file ≡ true) × (dims_of file ≡ c.in_ok-d.d)
header c = let file = c.args.file.now in given (has_header file) (sym c.dims_in_header.ensures ∙ c.in_ok-d.was)

span : (c : After-small_span) → c.small_span.result ≡ ltb (span_of (dims_of c.args.file.now)) largest_span
span c = c.small_span.ensures ∙ ap (λ (d : List _). ltb (span_of d) largest_span) (sym (header c).1)

pub data_of-requires : goal.data_of-requires
data_of-requires c = headed c.args.file.now (header (goal.at.data_of-requires c).After-small_span).0

pub returns-then-data_of-d : goal.returns-then-data_of-d
returns-then-data_of-d c =
    let file = c.args.file.now in
    let at = (goal.at.returns-then-data_of-d c).After-small_span in
    let h = header at in
    let long : length (data_of file) ≡ count_of (dims_of file) * 8 = ap length (sym c.data_of.ensures) ∙ c.if-data_of-d.true ∙ ap (λ (d : List _). count_of d * 8) (sym h.1) in
    give (sym (by_data file h.0) ∙ sym (data_there file (sym (span at) ∙ c.if-small_span.true)) ∙ eq-eqb (length (data_of file)) (count_of (dims_of file) * 8) long) h.1

pub returns-else-small_span : goal.returns-else-small_span
returns-else-small_span c =
    let file = c.args.file.now in
    let at = (goal.at.returns-else-small_span c).After-small_span in
    let h = header at in
    give_none
    (dims_of file)
    (sym (by_data file h.0)
    ∙ elim c.else-small_span.branch [
      | else-small_span-via-then-small_span+else-data_of-d w ↦
          sym (data_there file (sym (span at) ∙ w.if-small_span.true)) ∙ ne_eqb (length (data_of file)) (count_of (dims_of file) * 8) (λ e. w.if-data_of-d.false (ap length w.data_of.ensures ∙ e ∙ ap (λ (d : List _). count_of d * 8) h.1))
      | else-small_span-via-else-small_span w ↦ sym (large_span file (sym (span at) ∙ w.if-small_span.false))
    ])
