-- `resample::write::Sampling::prepare` meets its contract.
use mathlib.Core.Path.{◌∙◌}
use Rattle.resample.proofs.Preparing.{source_sized, filtered}
use Rattle.resample.proofs.write.Sampling.prepare.Goals as goal

pub filter_volume-requires-clause-sized : goal.filter_volume-requires-clause-sized
filter_volume-requires-clause-sized c =
    let s = c.args.self.now in
    source_sized s.r c.source_dims.result _ s.admitted.lengths c.source_dims.ensures (c.take_source.auto.work ∙ c.requires.work_len)

pub returns : goal.returns
returns c =
    let s = c.args.self.now in
    c.filter_volume.ensures ∙ filtered s.r s.input.now c.requires.filters c.source_dims.ensures c.take_source.ensures
