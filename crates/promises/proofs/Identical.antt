-- "Any pair of outcomes allowed by it is proved identical": the contract of an entry is an equation with its call.
use Prim.Native.Nat.{ℕ}
use mathlib.Core.Path.{◌≡◌, sym, ap, ◌∙◌}
use mathlib.Core.List.{List}
use lib.Ieee.{Float}
use Rattle.request.specs.declared.Request.{Request}
use Rattle.resample.specs.Call.{Call, FilterCall, call_of, filter_call_of}
use Rattle.one_voxel.specs.Call.{VoxelCall, voxel_call_of}
use Rattle.promises.specs.Entries.{Entry, Filter, call, voxel_call, filter_call}
use Rattle.std.specs.Prelude.{Result, ⊤}
use Rattle.refusal.specs.declared.Refusal.{Refusal}
use Rattle.coverage.specs.declared.counts.Counts.{Counts}

pub one_outcome :
    (e : Entry) (r : Request) (input output : List Float) (coverage : List ℕ) (work : List Float) {answer answer' : Result Counts Refusal} {values values' : List Float} {codes codes' : List ℕ} {after after' : List Float} →
    call_of answer values codes after ≡ call e r input output coverage work → call_of answer' values' codes' after' ≡ call e r input output coverage work →
    (answer ≡ answer') × (values ≡ values') × (codes ≡ codes') × (after ≡ after')
one_outcome e r input output coverage work p q =
    let same = p ∙ sym q in
    (ap (λ (c : Call). c.answer) same, ap (λ (c : Call). c.output) same, ap (λ (c : Call). c.coverage) same, ap (λ (c : Call). c.work) same)

pub one_filter_outcome :
    (f : Filter) (r : Request) (input output : List Float) {answer answer' : Result ⊤ Refusal} {values values' : List Float} →
    filter_call_of answer values ≡ filter_call f r input output → filter_call_of answer' values' ≡ filter_call f r input output →
    (answer ≡ answer') × (values ≡ values')
one_filter_outcome f r input output p q =
    let same = p ∙ sym q in
    (ap (λ (c : FilterCall). c.answer) same, ap (λ (c : FilterCall). c.output) same)

pub one_voxel_outcome :
    (e : Entry) (r : Request) (input work : List Float) (at : List ℕ) (value : List Float) (code : List ℕ) {answer answer' : Result ⊤ Refusal} {values values' : List Float} {codes codes' : List ℕ} →
    voxel_call_of answer values codes ≡ voxel_call e r input work at value code → voxel_call_of answer' values' codes' ≡ voxel_call e r input work at value code →
    (answer ≡ answer') × (values ≡ values') × (codes ≡ codes')
one_voxel_outcome e r input work at value code p q =
    let same = p ∙ sym q in
    (ap (λ (c : VoxelCall). c.answer) same, ap (λ (c : VoxelCall). c.value) same, ap (λ (c : VoxelCall). c.code) same)
