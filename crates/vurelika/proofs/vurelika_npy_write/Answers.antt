-- `vurelika::vurelika_npy_write` meets its contract.
use Rattle.vurelika.proofs.Doors.{npy_answered}
use Rattle.vurelika.proofs.vurelika_npy_write.Goals as goal

pub returns : goal.returns
returns c = npy_answered c.write.ensures c.number_in.ensures
