-- `vurelika::vurelika_npy_dims` meets its contract.
use Rattle.vurelika.proofs.Doors.{npy_answered}
use Rattle.vurelika.proofs.vurelika_npy_dims.Goals as goal

pub returns : goal.returns
returns c = npy_answered c.dims.ensures c.number_in.ensures
