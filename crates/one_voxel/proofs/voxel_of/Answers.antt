-- `one_voxel::voxel_of` meets its contract.
use Rattle.one_voxel.specs.Call.{voxel_of}
use Rattle.one_voxel.proofs.voxel_of.Goals as goal

pub returns : goal.returns
unfolding voxel_of
returns c = λ i. record { value = c.value_of-value.ensures i; code = c.own_code-code.ensures i }
