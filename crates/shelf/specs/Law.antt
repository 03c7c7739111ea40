-- The law over runs.
use Rattle.std.specs.Prelude.{◌≡◌, ℕ, ◌<◌, true, List, [], ◌∷◌, ◌++◌, Some, None, Ok, Err, Option, Result}
use Rattle.effects.specs.Effects.{Effects, Questions}
use Rattle.effects.specs.Codes.{Codes, QuestionCodes, codes, question_codes}
use Rattle.tape.specs.Requests.{Over}
use Rattle.tape.specs.Tape.{result}
use Rattle.tape.specs.declared.refusal.Refusal.{Refusal}
use Rattle.tape.specs.declared.refusal.RefusedAt.{RefusedAt}
use Rattle.diagram.specs.Requests.{Witness as FirstOf}
use Rattle.shelf.specs.Catalogue.{Catalogue, at_making, facts, policies, row_of, held}
use Rattle.shelf.specs.Calls.{declare_answer, find_answer, open_answer, feed_answer, file_answer, abandon_answer, load_answer, ask_answer, shape_answer, Compares, after_declare, after_open, after_feed, after_file, after_abandon, after_load}
use Rattle.shelf.specs.Stands.{numbering, asking, shaping, holding, Comparing, Stay}
use Rattle.shelf.specs.declared.exchange.Call.{Call}
use Rattle.shelf.specs.declared.exchange.Call.TheVariants.{Declare, Find, Open, Feed, File, Abandon, Load, Ask, Shape, Compare, Held}
use Rattle.shelf.specs.declared.exchange.Answer.{Answer}
use Rattle.shelf.specs.declared.exchange.Answer.TheVariants.{Fact, Unknown, Opened, Took, Filed, Abandoned, Loaded, Code, Shaped, Kept, Witness, Holding, Refused, RefusedThere}
use Rattle.shelf.specs.declared.shelf.Shelf.{Shelf}

-- how a result is told
abbrev pub told : {A : Type 0} → (A → Answer) → Result A Refusal → Answer
told good (Ok x) = good x
told good (Err e) = Refused e

-- how a load is told
abbrev pub told_load : Result (ℕ × ℕ) RefusedAt → Answer
told_load (Ok l) = Loaded l.0 l.1
told_load (Err e) = RefusedThere e

-- how a finding is told
abbrev pub found : Option ℕ → Answer
found None = Unknown
found (Some f) = Fact f

-- how a comparison is told
abbrev pub compared : Option ℕ → Answer
compared None = Kept
compared (Some w) = Witness w

-- the call x has the answer a at the catalogue c, where `number` is the shelf's choice of shape numbers
abbrev pub Answered : Codes → QuestionCodes → (ℕ → ℕ) → Catalogue → Call → Answer → Type 0
Answered K Q number c (Declare n) a = a ≡ told Fact (declare_answer c n)
Answered K Q number c (Find n) a = a ≡ found (find_answer c n)
Answered K Q number c Open a = a ≡ told Opened (open_answer c)
Answered K Q number c (Feed d bytes) a = a ≡ told Took (feed_answer K c d bytes.now)
Answered K Q number c (File d) a = a ≡ told Filed (file_answer c d)
Answered K Q number c (Abandon d) a = a ≡ told (λ _. Abandoned) (abandon_answer c d)
Answered K Q number c (Load tape) a = a ≡ told_load (load_answer K c tape.now)
Answered K Q number c (Ask p r) a = a ≡ told Code (ask_answer K c p r)
Answered K Q number c (Shape p) a = a ≡ told Shaped (shape_answer number c p)
Answered K Q number c (Compare p q k) a = (r : Result (Option ℕ) Refusal) × ((a ≡ told compared r) × Compares K Q c p q k r)
Answered K Q number c Held a = a ≡ Holding (held K c)

-- the catalogue after the call
abbrev pub after : Codes → Catalogue → Call → Catalogue
after K c (Declare n) = after_declare c n
after K c (Find n) = c
after K c Open = after_open c
after K c (Feed d bytes) = after_feed K c d bytes.now
after K c (File d) = after_file c d
after K c (Abandon d) = after_abandon c d
after K c (Load tape) = after_load K c tape.now
after K c (Ask p r) = c
after K c (Shape p) = c
after K c (Compare p q k) = c
after K c Held = c

module _ {E : Type 0} (M : Effects E) (Q : Questions E) where
  -- a policy's effect at a request: the one whose code the tape rules, run over codes there, leave at END
  abbrev pub effect_at : Catalogue → ℕ → ℕ → E
  effect_at c p r = M.effect (result (codes M) (row_of c p) r)

  -- the same effect at every request over the declared facts
  abbrev pub Alike : Catalogue → ℕ → ℕ → Type 0
  Alike c p q = (r : ℕ) → Over (facts c) r → effect_at c p r ≡ effect_at c q r

  -- a request breaks a question when the first's and the second's effects there do
  abbrev pub Breaking : Catalogue → ℕ → ℕ → ℕ → ℕ → Type 0
  Breaking c p q k r = Q.breaks k (effect_at c p r) (effect_at c q r) ≡ true

  -- what holds at a moment, when the shelf is s and the catalogue is c, of all filed policies
  pub record Moment (s : Shelf) (c : Catalogue) : Type 0 where
    -- `held` answers the catalogue's number
    pub holds : holding s ≡ held (codes M) c
    -- `ask` answers the code of the effect there
    pub asks : (p r : ℕ) → p < policies c → Over (facts c) r → asking s p r ≡ Ok (M.code (effect_at c p r))
    -- `shape` answers a number, and the same for two policies exactly when they have the same effect everywhere
    pub shaped : (p : ℕ) → p < policies c → shaping s p ≡ Ok (numbering s p)
    pub shapes : (p q : ℕ) → p < policies c → q < policies c → (numbering s p ≡ numbering s q → Alike c p q) × (Alike c p q → numbering s p ≡ numbering s q)
    -- `compare` answers that the question is kept exactly when no request breaks it, and else the first that does
    pub compares : (p q k : ℕ) (a : Result (Option ℕ) Refusal) → p < policies c → q < policies c → k < Q.questions → Comparing s p q k a → (o : Option ℕ) × ((a ≡ Ok o) × FirstOf (facts c) (Breaking c p q k) o)

  -- a run: it begins with the shelf s₀ at the catalogue c₀, these calls have these answers, and it ends with a shelf at a catalogue
  pub data Runs (s₀ : Shelf) (c₀ : Catalogue) : List Call → List Answer → Shelf → Catalogue → Type 0 where
    -- no call
    start : Moment s₀ c₀ → Runs s₀ c₀ [] [] s₀ c₀
    -- one more call: it is answered as the catalogue says, shape numbers stand, and the new moment is as it should
    then : {calls : List Call} {answers : List Answer} {s t : Shelf} {c : Catalogue} (x : Call) (a : Answer) → Runs s₀ c₀ calls answers s c → Answered (codes M) (question_codes M Q) (numbering s) c x a → Stay c (after (codes M) c x) s t → Moment t (after (codes M) c x) → Runs s₀ c₀ (calls ++ x ∷ []) (answers ++ a ∷ []) t (after (codes M) c x)

  -- the law: from the making of a shelf of this algebra, with this number and so many slots and name slots lent, these calls
  -- have these answers
  abbrev pub Lawful : ℕ → ℕ → ℕ → List Call → List Answer → Type 0
  Lawful number slots name_slots calls answers = (s : Shelf) × ((t : Shelf) × ((c : Catalogue) × Runs s (at_making number slots name_slots) calls answers t c))
