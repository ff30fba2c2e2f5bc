-- `tree::setting::set_limit` meets its contract. Assumes nothing.
use mathlib.Core.Path.{◌∙◌}
use Rattle.tree.proofs.LayoutLaws.{put-eq}
use Rattle.tree.proofs.SetterLaws.{wrote-limit}
use Rattle.tree.proofs.setting.set_limit.Goals as goal

pub returns : goal.returns
returns c =
    wrote-limit c.requires.0 c.args.r _ _ c.limit_word.ensures
    (c.set_word.ensures ∙ put-eq c.args.t.now c.args.g.0 _ _ _ c.limit_field.ensures.0)
