-- A shelf and its catalogue, and what the calls that change nothing answer on a shelf.
use Rattle.std.specs.Prelude.{◌≡◌, ℕ, ◌^◌, ◌<◌, [], ◌∷◌, length, replicate, Option, Result, nat_le, slice_index, slice_index_or}
use Rattle.effects.specs.Codes.{Codes, QuestionCodes}
use Rattle.probing.specs.Model.{keys, room}
use Rattle.probing.specs.Table.{free}
use Rattle.tape.specs.Tape.{first_of}
use Rattle.tape.specs.declared.refusal.Refusal.{Refusal}
use Rattle.tape.specs.declared.refusal.Refusal.TheVariants.{NoPolicy, NoQuestion, UndeclaredInRequest}
use Rattle.diagram.specs.Questions.{Breaks}
use Rattle.diagram.specs.Requests.{Witness}
use Rattle.diagram.specs.Stores.{held, slots, meaning}
use Rattle.shelf.specs.Catalogue.{Catalogue, policies}
use Rattle.shelf.specs.Calls.{Outcome}
use Rattle.shelf.specs.Upholds.{Upholds}
use Rattle.shelf.specs.declared.shelf.Shelf.{Shelf}

-- the shelf stands at the catalogue c, under the algebra K with the questions Q
abbrev pub Stands : Codes → QuestionCodes → Shelf → Catalogue → Type 0
Stands K Q s c = Upholds K Q s.names s.store s.tables s.questions s.stack s.state c

-- the number that a shelf has for the shape of a filed policy
abbrev pub numbering : Shelf → ℕ → ℕ
numbering s p = slice_index s.state.roots.items p

-- what `ask` answers on a shelf
unfoldable pub asking : Shelf → ℕ → ℕ → Result ℕ Refusal
asking s p r = first_of ((nat_le (length s.state.roots.items) p, NoPolicy) ∷ (nat_le (2 ^ length (keys s.names)) r, UndeclaredInRequest) ∷ []) (meaning s.store (numbering s p) r)

-- what `shape` answers on a shelf
unfoldable pub shaping : Shelf → ℕ → Result ℕ Refusal
shaping s p = first_of ((nat_le (length s.state.roots.items) p, NoPolicy) ∷ []) (numbering s p)

-- what `held` answers on a shelf
unfoldable pub holding : Shelf → ℕ
holding s = held s.store

-- what a comparison is refused for on a shelf
abbrev pub refusing : Shelf → ℕ → ℕ → ℕ → Result (Unit {0}) Refusal
refusing s p q k = first_of ((nat_le (length s.state.roots.items) p, NoPolicy) ∷ (nat_le (length s.state.roots.items) q, NoPolicy) ∷ (nat_le s.questions.count k, NoQuestion) ∷ []) tt

-- what else it answers: the first of all requests at which the two break the question
abbrev pub found_on : Shelf → ℕ → ℕ → ℕ → Option ℕ → Type 0
found_on s p q k o = Witness 32 (Breaks (slice_index_or s.questions.breaks k []) (meaning s.store (numbering s p)) (meaning s.store (numbering s q))) o

-- what `compare` answers on a shelf
unfoldable pub Comparing : Shelf → ℕ → ℕ → ℕ → Result (Option ℕ) Refusal → Type 0
Comparing s p q k a = Outcome (refusing s p q k) (found_on s p q k) a

-- a shape number stands while its policy is filed
abbrev pub Stay : Catalogue → Catalogue → Shelf → Shelf → Type 0
Stay c d s t = (p : ℕ) → p < policies c → p < policies d → shaping t p ≡ shaping s p

-- a shelf keeps to the slots that it was lent
pub record Lent (s t : Shelf) : Type 0 where
  pub slots : slots t.store ≡ slots s.store
  pub name_slots : room t.names ≡ room s.names

-- the shelf holds n slots for nodes, all of them zero
abbrev pub cleared_nodes : Shelf → ℕ → Type 0
cleared_nodes s n = s.store.unique.slots.now ≡ replicate n (free (record { fact = 0; low = 0; high = 0 }))

-- the shelf holds n slots for names, all of them zero
abbrev pub cleared_names : Shelf → ℕ → Type 0
cleared_names s n = s.names.slots.now ≡ replicate n (free (record { len = 0; bytes = replicate 16 0 }))

-- a call led from the shelf s, which stood at c, to the shelf t, which stands at d
pub record Moved (K : Codes) (Q : QuestionCodes) (s t : Shelf) (c d : Catalogue) : Type 0 where
  pub stands : Stands K Q t d
  pub stay : Stay c d s t
