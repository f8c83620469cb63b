use Rattle.families.specs.FamilyFacts.{layout_lawful, layout_small, layout_ascending}
use Rattle.families.proofs.every_family_is_lawful.Goals as goal

pub returns : goal.returns
returns c f = (layout_lawful f, layout_small f, layout_ascending f)
