-- `lines::value::parse_device` meets its contract: the device is the first word. Assumes nothing.
use mathlib.Core.Path.{ap, sym, ◌∙◌}
use Rattle.model.specs.Functions.{mapped}
use Rattle.model.specs.Text.{words}
use Rattle.model.specs.Settings.{value_of}
use Rattle.model.specs.declared.Setting.TheVariants.{IoMax}
use Rattle.lines.specs.Value.{clipped}
use Rattle.text.proofs.WordLaws.{words-first, words-none}
use Rattle.lines.proofs.value.parse_device.Goals as goal

-- no word
pub returns-in_err-device : goal.returns-in_err-device
unfolding value_of
returns-in_err-device c =
    c.from_residual.ensures
    ∙ sym (ap (λ ws. mapped clipped (value_of IoMax ws)) (ap words (sym c.text_of.ensures.text) ∙ words-none _ c.in_err-device.ensures))

pub returns : goal.returns
returns c =
    c.parse_device_and_pairs.ensures
    ∙ sym (ap (λ ws. mapped clipped (value_of IoMax ws)) (ap words (sym c.text_of.ensures.text) ∙ words-first _ _ _ c.in_ok-device.ensures))
