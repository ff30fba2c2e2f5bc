-- `files::device::put_devices` meets its contract: the text so far, and the lines of the slots that are left, are the file. Assumes nothing.
use Rattle.model.specs.declared.File.TheVariants.{Value}
use Rattle.model.specs.declared.Setting.TheVariants.{IoMax}
use Rattle.files.specs.Texts.{file_contents}
use Rattle.files.proofs.DeviceTextLaws.{Lines}
use Rattle.files.proofs.device.put_devices.Given as goal

abbrev pub invariant-loop-x : goal.invariant-loop-x
invariant-loop-x g l = Lines l.x-items l.x-index l.out (file_contents l.t l.fn.g.0 (Value IoMax))
