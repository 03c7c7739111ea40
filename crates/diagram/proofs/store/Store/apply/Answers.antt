use Rattle.std.proofs.Common.{◌≡◌, ℕ, ◌+◌, ◌<◌, take, sym, ap, ◌∙◌, arith}
use Rattle.effects.specs.Cells.{cell}
use Rattle.diagram.specs.Tree.{says, applied}
use Rattle.diagram.specs.Nodes.{meant}
use Rattle.diagram.specs.Counted.{Same}
use Rattle.diagram.specs.Stores.{nodes, held, meaning}
use Rattle.diagram.specs.declared.store.Store.{Store}
use Rattle.diagram.proofs.Applied.{applied_neat, applied_says}
use Rattle.diagram.proofs.Nodes.{tree_neat}
use Rattle.diagram.proofs.Records.{good}
use Rattle.diagram.proofs.Recording.{built, undone, later_built, later_undone}
use Rattle.diagram.proofs.store.Store.apply.Goals as goal

-- a code that was settled means what it meant
still : (s : Store) (a c : ℕ) (f : ℕ → ℕ) → meant (nodes s) a ≡ meant (nodes s) c → Same 32 (meaning s c) f → Same 32 (says (meant (nodes s) a)) f
still s a c f e h r b = ap (λ t. says t r) e ∙ h r b

pub combine-made-requires : goal.combine-made-requires
combine-made-requires c =
    let s = c.args.self.now in
    record {
      first_below = c.known-a.ensures.within;
      second_below = c.known-b.ensures.within;
      from_below = omega arith;
      first_later = tree_neat 32 (nodes s) (good s) c.known-a.result c.known-a.ensures.within;
      second_later = tree_neat 32 (nodes s) (good s) c.known-b.result c.known-b.ensures.within;
    }

-- what the two codes mean together, whatever they mean
of_both : (s : Store) (op : ℕ → ℕ → ℕ) (a b first second : ℕ) → a < 16 + held s → b < 16 + held s → meant (nodes s) a ≡ meant (nodes s) first → meant (nodes s) b ≡ meant (nodes s) second
    → (f g : ℕ → ℕ) → Same 32 (meaning s first) f → Same 32 (meaning s second) g → Same 32 (says (applied op 32 0 (meant (nodes s) a) (meant (nodes s) b))) (λ q. op (f q) (g q))
of_both s op a b first second ha hb ea eb f g ef eg =
    applied_says op 32 (meant (nodes s) a) (meant (nodes s) b) (tree_neat 32 (nodes s) (good s) a ha) (tree_neat 32 (nodes s) (good s) b hb) f g (still s a first f ea ef) (still s b second g eb eg)

pub returns-then-is_err : goal.returns-then-is_err
returns-then-is_err c =
    let s = c.args.self.now in
    let op = cell c.args.table.now.cells in
    let A = meant (nodes s) c.known-a.result in
    let B = meant (nodes s) c.known-b.result in
    let w = c.roll_back.ensures.width ∙ c.combine-made.ensures.width in
    let q = c.roll_back.ensures.listed ∙ ap (λ n. take n (nodes c.combine-made.new.self)) c.count-before.ensures.number in
    let o = sym c.is_err.ensures.value ∙ c.if-is_err.true in
    record {
      later = later_undone s _ (nodes c.combine-made.new.self) _ _ w q c.combine-made.result o c.combine-made.ensures.gives;
      gives = λ f g ef eg. undone s _ (λ q. op (f q) (g q)) (applied op 32 0 A B) (applied_neat op 32 32 0 (omega arith) A B)
          (of_both s op c.known-a.result c.known-b.result c.args.first c.args.second c.known-a.ensures.within c.known-b.ensures.within c.known-a.ensures.means c.known-b.ensures.means f g ef eg)
          (nodes c.combine-made.new.self) w q c.combine-made.result o c.combine-made.ensures.gives;
    }

pub returns-else-is_err : goal.returns-else-is_err
returns-else-is_err c =
    let s = c.args.self.now in
    let op = cell c.args.table.now.cells in
    let A = meant (nodes s) c.known-a.result in
    let B = meant (nodes s) c.known-b.result in
    let o = sym c.is_err.ensures.value ∙ c.if-is_err.false in
    record {
      later = later_built s c.combine-made.new.self _ _ c.combine-made.ensures.width c.combine-made.result o c.combine-made.ensures.gives;
      gives = λ f g ef eg. built s c.combine-made.new.self (λ q. op (f q) (g q)) (applied op 32 0 A B) (applied_neat op 32 32 0 (omega arith) A B)
          (of_both s op c.known-a.result c.known-b.result c.args.first c.args.second c.known-a.ensures.within c.known-b.ensures.within c.known-a.ensures.means c.known-b.ensures.means f g ef eg)
          c.combine-made.ensures.width c.combine-made.result o c.combine-made.ensures.gives;
    }
