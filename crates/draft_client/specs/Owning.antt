-- When a shelf takes a draft.
use Rattle.std.specs.Prelude.{◌≡◌, true}
use Rattle.effects.specs.Codes.{Codes, QuestionCodes}
use Rattle.shelf.specs.Catalogue.{Catalogue, own_open}
use Rattle.shelf.specs.Stands.{Stands}
use Rattle.shelf.specs.declared.draft.Draft.{Draft}
use Rattle.shelf.specs.declared.shelf.Shelf.{Shelf}

-- the draft is the shelf's open one, at a catalogue that the shelf stands at
abbrev pub Owns : Shelf → Draft → Type 0
Owns s d = ∥ ((K : Codes) × ((Q : QuestionCodes) × ((c : Catalogue) × (Stands K Q s c × (own_open c d.id ≡ true))))) ∥₁
