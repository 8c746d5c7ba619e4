-- `npy::file::dims_in_header` meets its contract.
use Prim.Native.Nat.{ℕ}
use native.Mathlib.Omega.{arith}
use mathlib.Core.Path.{sym, ap, ◌∙◌}
use mathlib.Core.Bool.{Bool, cond}
use lib.ListN.{take, drop}
use Rattle.std.specs.Prelude.{Some, None}
use Rattle.std.specs.Result.{result_ok}
use Rattle.text.specs.Text.{found}
use Rattle.text.proofs.Texts.{some_left, none_left}
use Rattle.npy.specs.Header.{lengths_of}
use Rattle.npy.specs.File.{text_start, text_of, dims_of}
use Rattle.npy.specs.Bookkeeping.{header_in}
use Rattle.npy.proofs.Deciding.{of_header, from_prefix, give_none, no_magic, long_text, cut_off, header_there}
use Rattle.npy.proofs.file.dims_in_header.Goals.{then-literal-file-via-then-literal-file, then-literal-file-via-else-literal-file+then-file-lt-TEXT_START, then-n-gt-LONGEST_TEXT-via-then-n-gt-LONGEST_TEXT, then-n-gt-LONGEST_TEXT-via-else-n-gt-LONGEST_TEXT+then-n-file}
use Rattle.npy.proofs.file.dims_in_header.Goals as goal

pub returns-then-literal-file : goal.returns-then-literal-file
returns-then-literal-file c =
    let l = c.literal in
    let file = c.args.file.now in
    give_none
    (dims_of file)
    (elim c.then-literal-file.branch [
      | then-literal-file-via-then-literal-file w ↦ sym (no_magic file (sym (ap found l.ensures) ∙ none_left file l.result w.if-literal-file.true))
      | then-literal-file-via-else-literal-file+then-file-lt-TEXT_START w ↦ sym (cut_off file (omega (arith, w.if-file-lt-TEXT_START.true)))
    ])

pub returns-then-n-gt-LONGEST_TEXT : goal.returns-then-n-gt-LONGEST_TEXT
returns-then-n-gt-LONGEST_TEXT c =
    let file = c.args.file.now in
    give_none
    (dims_of file)
    (elim c.then-n-gt-LONGEST_TEXT.branch [
      | then-n-gt-LONGEST_TEXT-via-then-n-gt-LONGEST_TEXT w ↦ sym (long_text file (omega (arith, c.text_length-n.ensures, w.if-n-gt-LONGEST_TEXT.true)))
      | then-n-gt-LONGEST_TEXT-via-else-n-gt-LONGEST_TEXT+then-n-file w ↦ sym (cut_off file (omega (arith, c.text_length-n.ensures, w.if-n-file.true)))
    ])

pub returns : goal.returns
unfolding dims_of
returns c =
    let l = c.literal in
    let t = c.text_length-n in
    let file = c.args.file.now in
    c.ok.ensures.value
    ∙ ap result_ok (c.header_of.ensures ∙ ap header_in (from_prefix text_start t.result file ∙ ap (λ (n : ℕ). take n (drop text_start file)) t.ensures))
    ∙ of_header (text_of file)
    ∙ ap (λ (x : Bool). cond x (Some (lengths_of (text_of file))) None) (header_there file (sym (ap found l.ensures) ∙ some_left file l.result c.if-literal-file.false) (omega (arith, t.ensures, c.if-n-gt-LONGEST_TEXT.false)) (omega (arith, t.ensures, c.if-n-file.false)))
