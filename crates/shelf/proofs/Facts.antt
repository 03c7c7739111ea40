-- What is certain of every shelf, whatever it stands at.
use Rattle.std.proofs.Common.{◌≡◌, ℕ, ◌<◌, ◌≤◌, length, Some}
use mathlib.Core.Logic.{∥∥₁_elim}
use native.Mathlib.Bridge.{le_prop}
use Rattle.probing.specs.Model.{room}
use Rattle.shelf.specs.declared.shelf.Shelf.{Shelf}

pub few_names : (s : Shelf) → room s.names ≤ 32
few_names s = ∥∥₁_elim s.stands le_prop (λ k. k.1.1.1.naming.few)

pub few_policies : (s : Shelf) → length s.state.roots.items ≤ 64
few_policies s = ∥∥₁_elim s.stands le_prop (λ k. k.1.1.1.filing.few)

pub room_to_file : (s : Shelf) (before : ℕ) → s.state.before ≡ Some before → length s.state.roots.items < 64
room_to_file s before e = ∥∥₁_elim s.stands le_prop (λ k. (k.1.1.1.drafting before e).room)
