-- `vurelika::vurelika_work_count` meets its contract: the literal 0.0 is the number 0.
use Prim.Native.Nat.{ℕ}
use mathlib.Core.Path.{◌≡◌, sym, ap, ◌∙◌}
use mathlib.Core.Bool.{true, false}
use lib.Dec.{ltb}
use lib.Ieee.{of_bits, of_int}
use borrow.Author.Tests.{le-ltb}
use Rattle.exact.specs.Rounded.{num}
use Rattle.request.specs.declared.Request.{Request}
use Rattle.request.specs.Sizes.{needed}
use Rattle.request.specs.Conditions.{bad_lengths}
use Rattle.request.proofs.Requests.{good_lengths}
use Rattle.numbers.specs.Numbers.{is_mode, plain_request_of}
use Rattle.vurelika.specs.Door.{work_count}
use Rattle.vurelika.proofs.Doors.{asked_for}
use Rattle.vurelika.proofs.vurelika_work_count.Goals as goal

counted :
    (d0 d1 d2 order prefilter mode : ℕ) {r : Request} → is_mode mode ≡ true → ltb 5 order ≡ false → bad_lengths r.dims ≡ false → r ≡ plain_request_of d0 d1 d2 order prefilter mode (num 0) →
    needed r ≡ work_count d0 d1 d2 order prefilter mode
unfolding work_count
counted d0 d1 d2 order prefilter mode known low long asked = ap (λ (r : Request). needed r) asked ∙ simp (known, low, ap (λ (r : Request). bad_lengths r.dims) (sym asked) ∙ long)

pub needed-requires : goal.needed-requires
needed-requires c = good_lengths _ (sym c.bad_lengths.ensures ∙ c.if-not-bad_lengths.true)

pub returns-in-Some : goal.returns-in-Some
unfolding of_bits of_int
returns-in-Some c =
    let a = c.args in
    c.needed.ensures ∙ counted a.d0 a.d1 a.d2 a.order a.prefilter a.mode (asked_for _ c.in-Some.ensures).0 (le-ltb _ _ c.if-order-le5.true) (sym c.bad_lengths.ensures ∙ c.if-not-bad_lengths.true) (asked_for _ c.in-Some.ensures).1
