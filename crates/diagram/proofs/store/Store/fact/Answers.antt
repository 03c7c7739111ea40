use Rattle.std.proofs.Common.{◌≡◌, ℕ, ◌<◌, refl, arith}
use Rattle.effects.specs.Tables.{bit}
use Rattle.tape.specs.Requests.{has}
use Rattle.diagram.specs.Tree.{Tree, Neat}
use Rattle.diagram.specs.Tree.Tree.{terminal, branch}
use Rattle.diagram.proofs.Recording.{tested_once, outcome_later}
use Rattle.diagram.proofs.store.Store.fact.Goals as goal

-- the tree of a fact is one test
abbrev one_test : ℕ → Tree
one_test f = branch f (terminal 0) (terminal 1)

neat : (f : ℕ) → f < 32 → Neat 32 0 (one_test f)
neat f h = (omega arith, h, tt, tt, λ e. let z : ◌≡◌ {A = ℕ} 0 1 = cc in omega arith)

pub returns : goal.returns
returns c =
    let s = c.args.self.now in
    let t = c.test.new.self in
    let o = tested_once s t (λ q. bit (has c.args.fact q)) (one_test c.args.fact) (neat c.args.fact c.requires.below) (λ r _. refl) c.test.ensures.width c.test.result c.test.ensures.gives c.test.ensures.still in
    record { later = outcome_later s t _ c.test.result o; gives = o }
