-- The catalogue, which nobody stores: what making and the calls of a shelf were given, as far as they were accepted.
use Rattle.std.specs.Prelude.{ℕ, ◌+◌, ◌-◌, ◌%◌, ◌^◌, min, Bool, true, false, ◌&&◌, List, [], ◌∷◌, ◌++◌, length, Some, None, Option, ◌==◌, nat_le, slice_index_or}
use Rattle.std.specs.List.{flat_map}
use Rattle.effects.specs.Codes.{Codes}
use Rattle.tape.specs.Tape.{Row, result}
use Rattle.tape.specs.declared.command.Command.{Command}
use Rattle.diagram.specs.Cofactors.{count}
use Rattle.shelf.specs.Names.{Spelling}
use Rattle.shelf.specs.declared.draft.DraftId.{DraftId}

-- what a shelf was made with: its number, and how many slots and name slots it uses
pub record Making : Type 0 where
  pub number : ℕ
  pub slots : ℕ
  pub name_slots : ℕ

-- a filed policy
pub record Filed : Type 0 where
  pub row : Row

-- what stands at places that have no policy
abbrev pub no_policy : Filed
no_policy = record { row = [] }

-- the declared names, fact f at place f, and the filed policies, policy p at place p
pub record Contents : Type 0 where
  pub names : List Spelling
  pub filed : List Filed

-- what making was given, the contents, the open draft's row if there is one, and how many drafts were given out
pub record Catalogue : Type 0 where
  pub making : Making
  pub contents : Contents
  pub drafting : Option Row
  pub given : ℕ

-- at making there are no names and no rows, and no draft was given out; at most 65,520 slots and 32 name slots are used
abbrev pub at_making : ℕ → ℕ → ℕ → Catalogue
at_making number slots name_slots = record {
  making = record { number = number; slots = min slots 65520; name_slots = min name_slots 32 };
  contents = record { names = []; filed = [] };
  drafting = None;
  given = 0;
}

-- how many facts are declared
abbrev pub facts : Catalogue → ℕ
facts c = length c.contents.names

-- how many policies are filed
abbrev pub policies : Catalogue → ℕ
policies c = length c.contents.filed

-- the row of policy p
abbrev pub row_of : Catalogue → ℕ → Row
row_of c p = (slice_index_or c.contents.filed p no_policy).row

-- there is no policy p that can be asked and compared
abbrev pub not_read : Catalogue → ℕ → Bool
not_read c p = nat_le (policies c) p

-- there is no policy p that has a shape
abbrev pub not_kept : Catalogue → ℕ → Bool
not_kept c p = nat_le (policies c) p

-- a draft is open
abbrev pub is_open : Catalogue → Bool
is_open c = elim c.drafting [ None ↦ false | Some row ↦ true ]

-- the open draft's row
abbrev pub open_row : Catalogue → Row
open_row c = elim c.drafting [ None ↦ [] | Some row ↦ row ]

-- the results of a row's commands, as functions of requests, after the commands done
abbrev pub results_from : Codes → Row → Row → List (ℕ → ℕ)
results_from K done [] = []
results_from K done (x ∷ xs) = (λ q. result K (done ++ x ∷ []) q) ∷ results_from K (done ++ x ∷ []) xs

-- the results of all commands of a row
unfoldable pub results : Codes → Row → List (ℕ → ℕ)
results K row = results_from K [] row

-- what is held of a filed policy: the results of all its commands
abbrev pub held_results : Codes → Filed → List (ℕ → ℕ)
held_results K f = results K f.row

-- the results of all accepted commands of the filed drafts
unfoldable pub filed_results : Codes → Catalogue → List (ℕ → ℕ)
filed_results K c = flat_map (held_results K) c.contents.filed

-- and of the open one
unfoldable pub all_results : Codes → Catalogue → List (ℕ → ℕ)
all_results K c = filed_results K c ++ results K (open_row c)

-- held: how many distinct cofactors that are not constant they have, over the declared facts
unfoldable pub held : Codes → Catalogue → ℕ
held K c = count (facts c) (all_results K c)

-- a draft is named by its shelf's number and by how many drafts were given out there before it, modulo 2^32; it is the
-- shelf's open one where one is open there and both numbers agree
abbrev pub own_open : Catalogue → DraftId → Bool
own_open c d = is_open c && (d.shelf == c.making.number && d.count == (c.given - 1) % 2 ^ 32)

-- the number that file and load answer for a row
abbrev pub filed_as : Catalogue → Row → ℕ
filed_as c row = policies c

-- how a catalogue changes: a name more; a draft opened; a command more in its row; its row filed; its row dropped; a row filed at once
abbrev pub naming : Catalogue → Spelling → Catalogue
naming c n = record { making = c.making; contents = record { names = c.contents.names ++ n ∷ []; filed = c.contents.filed }; drafting = c.drafting; given = c.given }

abbrev pub with_rows : Catalogue → List Filed → Option Row → ℕ → Catalogue
with_rows c filed row given = record { making = c.making; contents = record { names = c.contents.names; filed = filed }; drafting = row; given = given }

abbrev pub opening : Catalogue → Catalogue
opening c = with_rows c c.contents.filed (Some []) (c.given + 1)

abbrev pub feeding : Catalogue → Command → Catalogue
feeding c x = with_rows c c.contents.filed (Some (open_row c ++ x ∷ [])) c.given

abbrev pub filing : Catalogue → Row → Catalogue
filing c row = with_rows c (c.contents.filed ++ (record { row = row }) ∷ []) None c.given

abbrev pub abandoning : Catalogue → Catalogue
abandoning c = with_rows c c.contents.filed None c.given
