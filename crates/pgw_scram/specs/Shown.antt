-- What a reader shows of the borrowed parts of a text.
use Rattle.std.specs.Prelude.{ℕ, List, Option}
use Rattle.std.specs.Option.{option_copied}
use Rattle.pgw_scram.specs.declared.attributes.Attribute.{Attribute}
use Rattle.pgw_scram.specs.declared.attributes.TwoAttributes.{TwoAttributes}

abbrev pub attribute_parts : Attribute → List ℕ × Option (List ℕ)
attribute_parts a = (a.value.now, option_copied a.rest)

abbrev pub shown_two : TwoAttributes → List ℕ × List ℕ × Option (List ℕ)
shown_two two = (two.first.now, two.second.now, option_copied two.rest)
