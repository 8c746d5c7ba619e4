-- `one_voxel::put` meets its contract.
use Rattle.lists.proofs.Stretches.{one_stored}
use Rattle.one_voxel.proofs.put.Goals as goal

pub returns : goal.returns
returns c = (one_stored c.args.value.now c.requires.0, one_stored c.args.code.now c.requires.1)
