-- `vurelika::vurelika_npy_read` meets its contract.
use Rattle.vurelika.proofs.Doors.{npy_answered}
use Rattle.vurelika.proofs.vurelika_npy_read.Goals as goal

pub returns : goal.returns
returns c = npy_answered c.read.ensures c.number_in.ensures
