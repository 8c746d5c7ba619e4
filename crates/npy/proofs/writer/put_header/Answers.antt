-- `npy::writer::put_header` meets its contract.
use Prim.Native.Nat.{ℕ, ◌-◌}
use Prim.Native.Char.{code}
use native.Mathlib.Omega.{arith}
use mathlib.Core.Path.{◌≡◌, sym, ap, ◌∙◌}
use mathlib.Core.List.{List, [], ◌∷◌, ◌++◌, append_assoc}
use lib.ListN.{length, drop, length-append, length-replicate}
use lib.Seq.{length-take-le, take_at}
use Rattle.text.specs.Text.{bytes}
use Rattle.npy.specs.File.{magic, entries, spaces, written_text, written_header}
use Rattle.npy.specs.Bookkeeping.{written_lengths}
use Rattle.npy.proofs.Puts.{lengths_short}
use Rattle.npy.proofs.PutHeader.{text_long, header_put}
use Rattle.npy.proofs.Written.{header_length}
use Rattle.npy.proofs.writer.put_header.Goals.{After-as_slice}
use Rattle.npy.proofs.writer.put_header.Goals as goal

pub put-requires-3 : goal.put-requires-3
put-requires-3 c = omega (arith, length-append {A = ℕ}, ap length c.new-header.ensures, ap length c.put.ensures, ap length c.put-2.ensures, ap length c.put_lengths.ensures, lengths_short c.args.d)

pub put_spaces-requires-clause-ahead : goal.put_spaces-requires-clause-ahead
put_spaces-requires-clause-ahead c =
    omega (arith, length-append {A = ℕ}, ap length c.new-header.ensures, ap length c.put.ensures, ap length c.put-2.ensures, ap length c.put_lengths.ensures, lengths_short c.args.d, ap length c.put-3.ensures)

pub put-requires-4 : goal.put-requires-4
put-requires-4 c =
    let n = 127 - length c.put-3.new.self in
    omega
    (arith, length-append {A = ℕ}, ap length c.new-header.ensures, ap length c.put.ensures, ap length c.put-2.ensures, ap length c.put_lengths.ensures, lengths_short c.args.d, ap length c.put-3.ensures, ap length c.put_spaces.ensures, length-replicate n (code " "))

-- all that is put, in one piece
all : (c : After-as_slice) → c.as_slice.result.now ≡ written_header c.args.d
all c =
    let d = c.args.d in
    let k = 127 - length c.put-3.new.self in
    let few : k ≡ 117 - length (written_text d) =
    omega (arith, length-append {A = ℕ}, ap length c.new-header.ensures, ap length c.put.ensures, ap length c.put-2.ensures, ap length c.put_lengths.ensures, lengths_short d, ap length c.put-3.ensures, text_long d) in
    let behind = λ (text : List ℕ) (l : List ℕ). l ++ text in
    let preamble = c.put.ensures ∙ ap (behind (magic ++ (118 ∷ 0 ∷ []))) c.new-header.ensures in
    let lengths = c.put_lengths.ensures ∙ ap (behind (written_lengths d)) (c.put-2.ensures ∙ ap (behind entries) preamble) in
    let padded = c.put_spaces.ensures ∙ ap (behind (spaces k)) (c.put-3.ensures ∙ ap (behind (bytes "), }")) lengths) in
    let parts : c.put-4.new.self ≡ (magic ++ (118 ∷ 0 ∷ [])) ++ (entries ++ (written_lengths d ++ (bytes "), }" ++ (spaces k ++ (code "\n" ∷ []))))) = c.put-4.ensures ∙ ap (behind (code "\n" ∷ [])) padded ∙ simp append_assoc in
    c.as_slice.ensures ∙ parts ∙ header_put d k few

pub copy_from_slice-requires : goal.copy_from_slice-requires
copy_from_slice-requires c = length-take-le 128 c.args.bytes.now c.requires ∙ sym (ap length (all c) ∙ header_length c.args.d)

pub returns : goal.returns
returns c =
    let header = c.copy_from_slice.ensures.after ∙ all (goal.at.returns c).After-as_slice in
    take_at c.copy_from_slice.new.self (drop 128 c.args.bytes.now) 128 (ap length header ∙ header_length c.args.d) ∙ header
