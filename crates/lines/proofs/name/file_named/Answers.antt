-- `lines::name::file_named` meets its contract: the settings are the first of the files. Assumes nothing.
use mathlib.Core.Path.{sym, ◌∙◌}
use Rattle.std.specs.Prelude.{map, ◌++◌}
use Rattle.model.specs.Names.{settings, core_files, controller_files, file_name}
use Rattle.model.specs.declared.File.TheVariants.{Value}
use Rattle.lines.proofs.NameLaws.{named-before, named-behind}
use Rattle.lines.proofs.name.file_named.Goals as goal

pub returns-in-Some : goal.returns-in-Some
returns-in-Some c =
    named-before file_name c.args.file.now (core_files ++ controller_files) (map Value settings) _
    (sym c.in-Some.is ∙ c.first_named.ensures)

pub returns : goal.returns
returns c =
    c.first_named-2.ensures
    ∙ named-behind file_name c.args.file.now (core_files ++ controller_files) (map Value settings)
    (sym c.in_default.is ∙ c.first_named.ensures)
