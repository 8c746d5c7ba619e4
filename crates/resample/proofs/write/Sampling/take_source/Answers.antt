-- `resample::write::Sampling::take_source` meets its contract.
use mathlib.Core.Path.{◌∙◌, sym}
use Rattle.resample.proofs.Preparing.{source_plain, source-padded}
use Rattle.resample.proofs.write.Sampling.take_source.Goals as goal

pub returns-then-has_pad : goal.returns-then-has_pad
returns-then-has_pad c =
    let s = c.args.self.now in
    c.pad.ensures ∙ source-padded s.r s.input.now (sym c.has_pad.ensures ∙ c.if-has_pad.true)

pub returns-else-has_pad : goal.returns-else-has_pad
returns-else-has_pad c =
    let s = c.args.self.now in
    c.copy.ensures ∙ source_plain s.r s.input.now (sym c.has_pad.ensures ∙ c.if-has_pad.false)
