-- What a store's outcome is for a reader of tapes.
use Rattle.std.proofs.Common.{◌≡◌, ℕ, false, Ok, Err, Result, sym, subst}
use Rattle.tape.specs.Entries.{Gives}
use Rattle.tape.specs.declared.refusal.Refusal.{Refusal}
use Rattle.tape.specs.declared.refusal.Refusal.TheVariants.{NoSlot}
use Rattle.diagram.specs.Stores.{Taken, TooMany}
use Rattle.diagram.specs.Entries.{store_model}
use Rattle.diagram.specs.declared.store.Store.{Store}

pub gives_taken : (s t : Store) (F : ℕ → ℕ) (c : ℕ) → Taken s F t c → Gives store_model false s t F (Ok c)
gives_taken s t F c d = (d.fits, d.means, d.grows)

pub gives_full : (s t : Store) (F : ℕ → ℕ) (r : Result ℕ Refusal) (e : Refusal) → r ≡ Err e → e ≡ NoSlot → TooMany s F t → Gives store_model false s t F r
gives_full s t F r e p q d = subst (Gives store_model false s t F) (sym p) (d.full, q, d.same)
