-- The promises of lengths, reader and writer: one outcome, nothing written on a refusal, each refusal exactly when. And the way there and back, call by call: "Reading a written volume returns the same bits; writing a read one returns the same bytes only if its header was ours."
use Prim.Native.Nat.{ℕ, ◌+◌, ◌^◌, ◌≤◌}
use native.Mathlib.Omega.{arith}
use mathlib.Core.Path.{◌≡◌, refl, sym, ap, ◌∙◌, subst}
use mathlib.Core.Logic.{◌↔◌}
use mathlib.Core.Bool.{Bool, true, false, cond, true≢false}
use mathlib.Core.List.{List}
use lib.Dec.{leb, lit≤}
use lib.ListN.{length, take}
use borrow.Author.Tests.{leb-true}
use Rattle.words.specs.Words.{Below}
use Rattle.words.proofs.Numbers.{length_words}
use Rattle.prefilter.specs.Volume.{count_of}
use Rattle.request.specs.Conditions.{bad_lengths, too_large}
use Rattle.refusal.specs.declared.Refusal.{Refusal}
use Rattle.refusal.specs.declared.Refusal.TheVariants.{NotNpy, Length, Count}
use Rattle.refusal.specs.Refusals.{Check, first, number_of, number_in}
use Rattle.refusal.proofs.Firsts.{all_clear, all_say, found_among}
use Rattle.npy.specs.File.{text_start, text_length, is_npy, dims_of, voxels_of, written_header, written}
use Rattle.npy.specs.Call.{NpyCall, npy_call_of, npy_call_by, length_checks, read_checks, write_checks, size_of, dims_call, read_call, write_call}
use Rattle.npy.proofs.Verdicts.{write_passed, read_passed, read_clear, passing, write_clear}
use Rattle.npy.proofs.RoundTrip.{written_dims, written_is_npy, written_voxels, rewritten}
use Rattle.promises.specs.Given.{holds, FirstToHold}
use Rattle.promises.specs.Filings.{Filing, measuring, reading, writing, file_call, held, made, other_file, file_checks}
use Rattle.promises.proofs.Given.{distinct, exactly, success}
use Rattle.std.specs.Prelude.{Result, Ok, Err, ⊤}

-- ---- 10 stands before checks that are all document 01's
abbrev nine : Refusal → Bool
nine why = leb (number_of why) 9

abbrev Later : List Check → Type 0
Later l = (distinct l ≡ true) × (all_say nine l ≡ true)

at_most : (l : List Check) → all_say nine l ≡ true → number_in (first l) ≤ 9
at_most l h = go (first l) refl
  where
    go : (v : Result ⊤ Refusal) → first l ≡ v → number_in v ≤ 9
    go (Ok tt) q = lit≤ tt
    go (Err why) q = leb-true (number_of why) 9 (found_among nine l h why q)

module _ (l : List Check) (u : Later l) where
  abbrev behind : Bool → ℕ
  behind other = number_in (cond other (Err NotNpy) (first l))

  is_ten : (other : Bool) → (behind other ≡ 10) ↔ (other ≡ true)
  is_ten true = (λ e. refl, λ e. refl)
  is_ten false = (λ e. absurd (omega (arith, e, at_most l u.1)), λ e. absurd (true≢false (sym e)))

  is_most : (other : Bool) → behind other ≤ 10
  is_most true = lit≤ tt
  is_most false = omega (arith, at_most l u.1)

  is_later : (other : Bool) (n : ℕ) → 1 ≤ n → n ≤ 9 → (behind other ≡ n) ↔ ((other ≡ false) × FirstToHold l n)
  is_later true n p q = (λ e. absurd (omega (arith, e, q)), λ h. absurd (true≢false h.0))
  is_later false n p q = let x = exactly l u.0 refl n p in (λ e. (refl, x.0 e), λ h. x.1 h.1)

  is_none : (other : Bool) → (behind other ≡ 0) ↔ ((other ≡ false) × ((n : ℕ) → holds l n ≡ false))
  is_none true = (λ e. absurd (omega (arith, e)), λ h. absurd (true≢false h.0))
  is_none false = let x = success l u.0 refl in (λ e. (refl, x.0 e), λ h. x.1 h.1)

-- ---- the three calls
abbrev pub verdict : Filing → Result ⊤ Refusal
verdict c = cond (other_file c) (Err NotNpy) (first (file_checks c))

module _ (c : Filing) where
  pub one_file_outcome : {answer answer' : Result ⊤ Refusal} {buffer buffer' : List ℕ} → npy_call_of answer buffer ≡ file_call c → npy_call_of answer' buffer' ≡ file_call c → (answer ≡ answer') × (buffer ≡ buffer')
  one_file_outcome p q =
      let same = p ∙ sym q in
      (ap (λ (n : NpyCall). n.answer) same, ap (λ (n : NpyCall). n.buffer) same)

  abbrev file_number : ℕ
  file_number = number_in (file_call c).answer

  file_later : Later (file_checks c)
  file_later = elim c as (λ (k : Filing). Later (file_checks k)) [
    | measuring file dims ↦ (refl, refl)
    | reading file volume ↦ (refl, refl)
    | writing d volume bytes ↦ (refl, refl)
  ]

  call_is : file_call c ≡ npy_call_by (verdict c) (made c) (held c)
  unfolding dims_call read_call write_call
  call_is = elim c as (λ (k : Filing). file_call k ≡ npy_call_by (verdict k) (made k) (held k)) [ measuring file dims ↦ refl | reading file volume ↦ refl | writing d volume bytes ↦ refl ]

  file_numbered : file_number ≡ behind (file_checks c) file_later (other_file c)
  file_numbered = ap (λ (n : NpyCall). number_in n.answer) call_is ∙ by (verdict c) (made c) (held c)
    where
      by : (v : Result ⊤ Refusal) (made held : List ℕ) → number_in (npy_call_by v made held).answer ≡ number_in v
      by (Ok tt) made held = refl
      by (Err why) made held = refl

  pub file_refusal_leaves : (file_number ≡ 0 → ⊥) → (file_call c).buffer ≡ held c
  file_refusal_leaves = subst (λ (n : NpyCall). (number_in n.answer ≡ 0 → ⊥) → n.buffer ≡ held c) (sym call_is) (kept (verdict c) (made c) (held c))
    where
      kept : (v : Result ⊤ Refusal) (made held : List ℕ) → (number_in (npy_call_by v made held).answer ≡ 0 → ⊥) → (npy_call_by v made held).buffer ≡ held
      kept (Ok tt) made held h = absurd (h refl)
      kept (Err why) made held h = refl

  pub file_success_leaves : (file_call c).answer ≡ Ok tt → (verdict c ≡ Ok tt) × ((file_call c).buffer ≡ made c)
  file_success_leaves = subst (λ (n : NpyCall). n.answer ≡ Ok tt → (verdict c ≡ Ok tt) × (n.buffer ≡ made c)) (sym call_is) (left (verdict c) (made c) (held c))
    where
      left : (v : Result ⊤ Refusal) (made held : List ℕ) → (npy_call_by v made held).answer ≡ Ok tt → (v ≡ Ok tt) × ((npy_call_by v made held).buffer ≡ made)
      left (Ok tt) made held e = (refl, refl)
      left (Err why) made held e = let z : ◌≡◌ {A = ℕ} 0 1 = cc in absurd (omega arith)

  pub file_answered : file_number ≤ 10
  file_answered = subst (λ (m : ℕ). m ≤ 10) (sym file_numbered) (is_most (file_checks c) file_later (other_file c))

  -- "10, any other file"
  pub ten_exactly : (file_number ≡ 10) ↔ (other_file c ≡ true)
  ten_exactly = subst (λ (m : ℕ). (m ≡ 10) ↔ (other_file c ≡ true)) (sym file_numbered) (is_ten (file_checks c) file_later (other_file c))

  -- 3, 6 and 7 then, in this order
  pub file_refusal_exactly : (n : ℕ) → 1 ≤ n → n ≤ 9 → (file_number ≡ n) ↔ ((other_file c ≡ false) × FirstToHold (file_checks c) n)
  file_refusal_exactly n p q = subst (λ (m : ℕ). (m ≡ n) ↔ ((other_file c ≡ false) × FirstToHold (file_checks c) n)) (sym file_numbered) (is_later (file_checks c) file_later (other_file c) n p q)

  pub file_success_exactly : (file_number ≡ 0) ↔ ((other_file c ≡ false) × ((n : ℕ) → holds (file_checks c) n ≡ false))
  file_success_exactly = subst (λ (m : ℕ). (m ≡ 0) ↔ ((other_file c ≡ false) × ((n : ℕ) → holds (file_checks c) n ≡ false))) (sym file_numbered) (is_none (file_checks c) file_later (other_file c))

-- ---- what lets reader and writer pass
pub lengths_pass : (d : List ℕ) → bad_lengths d ≡ false → too_large (count_of d) ≡ false → first (length_checks d) ≡ Ok tt
lengths_pass d a b = λ t. cond (a t) (Err Length) (cond (b t) (Err Count) (Ok tt))

pub reads_voxels : (file volume voxels : List ℕ) → is_npy file ≡ true → first (length_checks (dims_of file)) ≡ Ok tt → length volume ≡ count_of (dims_of file) → voxels_of file ≡ voxels → read_call file volume ≡ npy_call_of (Ok tt) voxels
unfolding read_call
reads_voxels file volume voxels npy pass long same = sym (passing volume (read_passed file (length volume) npy pass long) (sym same))

pub writes_file : (d volume bytes : List ℕ) → first (length_checks d) ≡ Ok tt → length volume ≡ count_of d → length bytes ≡ size_of d → write_call d volume bytes ≡ npy_call_of (Ok tt) (written d volume)
unfolding write_call
writes_file d volume bytes pass long size = sym (passing bytes (write_passed d pass (length volume) (length bytes) long size) refl)

-- "reading a written volume returns the same bits"
pub read_written : (d v bytes file volume : List ℕ) → length d ≡ 3 → Below (2 ^ 64) v → write_call d v bytes ≡ npy_call_of (Ok tt) file → length volume ≡ length v → read_call file volume ≡ npy_call_of (Ok tt) v
read_written d v bytes file volume axes below e long =
    let w = file_success_leaves (writing d v bytes) (ap (λ (n : NpyCall). n.answer) e) in
    let h = all_clear (write_checks d (length v) (length bytes)) w.0 in
    let c = write_clear d (length v) (length bytes) w.0 in
    let dims = written_dims d v c.lengths axes in
    let count = sym c.voxels in
    subst (λ (f : List ℕ). read_call f volume ≡ npy_call_of (Ok tt) v) (sym w.1 ∙ ap (λ (n : NpyCall). n.buffer) e)
    (reads_voxels (written d v) volume v (written_is_npy d v c.lengths axes count) (subst (λ (l : List ℕ). first (length_checks l) ≡ Ok tt) (sym dims) (lengths_pass d h.0 h.1.0)) (long ∙ c.voxels ∙ ap count_of (sym dims)) (written_voxels d v c.lengths axes count below))

voxels_long : (file : List ℕ) → length (voxels_of file) ≡ count_of (dims_of file)
unfolding voxels_of
voxels_long file = length_words 8 (count_of (dims_of file)) _

-- "writing a read one returns the same bytes only if its header was ours", and then it does
pub write_read :
    (file volume v bytes : List ℕ) → Below 256 file → read_call file volume ≡ npy_call_of (Ok tt) v → length bytes ≡ size_of (dims_of file) →
    (write_call (dims_of file) v bytes ≡ npy_call_of (Ok tt) file) ↔ (take (text_start + text_length file) file ≡ written_header (dims_of file))
write_read file volume v bytes below e size =
    let w = file_success_leaves (reading file volume) (ap (λ (n : NpyCall). n.answer) e) in
    let h = all_clear (read_checks file (length volume)) w.0 in
    let same : voxels_of file ≡ v = sym w.1 ∙ ap (λ (n : NpyCall). n.buffer) e in
    let again = rewritten file (read_clear file (length volume) w.0).0 below in
    let out = writes_file (dims_of file) (voxels_of file) bytes (lengths_pass (dims_of file) h.1.0 h.1.1.0) (voxels_long file) size in
    subst (λ (l : List ℕ). (write_call (dims_of file) l bytes ≡ npy_call_of (Ok tt) file) ↔ (take (text_start + text_length file) file ≡ written_header (dims_of file))) same
    (λ q. again.0 (ap (λ (n : NpyCall). n.buffer) (sym out ∙ q)), λ q. out ∙ ap (npy_call_of (Ok tt)) (again.1 q))
