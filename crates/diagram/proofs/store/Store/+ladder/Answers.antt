use Rattle.std.proofs.Common.{◌-◌, ◌<◌, sym, ◌∙◌, subst, arith}
use Rattle.std.proofs.lemmas.Result.{err_from_is_err_and}
use Rattle.std.proofs.lemmas.Bool.{eq-eqb, ne_eqb}
use Rattle.diagram.specs.Nodes.{trees, meant, inserted, tested}
use Rattle.diagram.specs.Tree.{ladder, mk}
use Rattle.diagram.specs.Building.{Answer}
use Rattle.diagram.specs.Stores.{nodes, slots}
use Rattle.diagram.proofs.Records.{good}
use Rattle.diagram.proofs.Rungs.{byte_end, end_made, rest_refused, rest_made, rest_neat, every_made, any_made}
use Rattle.diagram.proofs.store.Store.+ladder.Goals as goal

pub returns-then-from-ge-FACTS-clause-gives : goal.returns-then-from-ge-FACTS-clause-gives
returns-then-from-ge-FACTS-clause-gives t c =
    let e = byte_end c.args.every c.from.result c.from.ensures in
    end_made 32 c.args.from (nodes c.args.self.now) (good c.args.self.now) c.args.every c.args.mask c.from.result (omega arith) e.0 e.1

pub returns-in_err-rest : goal.returns-in_err-rest
returns-in_err-rest t c =
    let s = c.args.self.now in
    let lt : c.args.from < 32 = omega arith in
    let J = ladder c.args.every c.args.mask (32 - c.args.from) c.args.from in
    let p = err_from_is_err_and c.from_residual.result c.from_residual.ensures.1 in
    record {
      width = c.ladder.ensures.width;
      gives = subst (Answer 32 (slots s) (nodes s) (nodes c.ladder.new.self) (inserted (trees (nodes s)) J) J) (sym p.1)
          (rest_refused 32 (slots s) c.args.from lt (nodes s) (good s) c.args.every c.args.mask (nodes c.ladder.new.self) c.in_err-rest.ensures.gives);
    }

pub returns-then-mask-from-eq0 : goal.returns-then-mask-from-eq0
returns-then-mask-from-eq0 t c =
    let s = c.args.self.now in
    let lt : c.args.from < 32 = omega arith in
    record {
      width = c.ladder.ensures.width;
      gives = rest_made 32 (slots s) c.args.from lt (nodes s) (good s) c.args.every c.args.mask (nodes c.ladder.new.self) c.in_ok-rest.rest c.in_ok-rest.ensures.gives
          (ne_eqb _ 1 (λ e. omega (arith, e, c.if-mask-from-eq0.true)));
    }

pub test-requires : goal.test-requires
test-requires t c =
    let s = c.args.self.now in
    let lt : c.args.from < 32 = omega arith in
    let m = c.in_ok-rest.ensures.gives in
    record {
      low_below = omega arith;
      high_below = m.within;
      fact_below = lt;
      low_later = tt;
      high_later = rest_neat 32 (slots s) c.args.from lt (nodes s) (good s) c.args.every c.args.mask (nodes c.ladder.new.self) c.in_ok-rest.rest m;
    }

pub test-requires-else-every : goal.test-requires-else-every
test-requires-else-every t c =
    let s = c.args.self.now in
    let lt : c.args.from < 32 = omega arith in
    let m = c.in_ok-rest.ensures.gives in
    record {
      low_below = m.within;
      high_below = omega arith;
      fact_below = lt;
      low_later = rest_neat 32 (slots s) c.args.from lt (nodes s) (good s) c.args.every c.args.mask (nodes c.ladder.new.self) c.in_ok-rest.rest m;
      high_later = tt;
    }

pub returns-then-every : goal.returns-then-every
returns-then-every t c =
    let s = c.args.self.now in
    let ys = nodes c.ladder.new.self in
    let zs = nodes c.test.new.self in
    let k = c.args.from in
    let lt : k < 32 = omega arith in
    record {
      width = c.test.ensures.width ∙ c.ladder.ensures.width;
      gives = every_made 32 (slots s) k lt (nodes s) (good s) c.args.every c.args.mask ys c.in_ok-rest.rest c.in_ok-rest.ensures.gives
          (eq-eqb _ 1 (omega (arith, c.if-mask-from-eq0.false))) c.if-every.true zs c.test.result
          (subst (λ n. Answer 32 n ys zs (tested (trees ys) k (meant ys 0) (meant ys c.in_ok-rest.rest)) (mk k (meant ys 0) (meant ys c.in_ok-rest.rest)) c.test.result) c.ladder.ensures.width c.test.ensures.gives);
    }

pub returns-else-every : goal.returns-else-every
returns-else-every t c =
    let s = c.args.self.now in
    let ys = nodes c.ladder.new.self in
    let zs = nodes c.test-else-every.new.self in
    let k = c.args.from in
    let lt : k < 32 = omega arith in
    record {
      width = c.test-else-every.ensures.width ∙ c.ladder.ensures.width;
      gives = any_made 32 (slots s) k lt (nodes s) (good s) c.args.every c.args.mask ys c.in_ok-rest.rest c.in_ok-rest.ensures.gives
          (eq-eqb _ 1 (omega (arith, c.if-mask-from-eq0.false))) c.if-every.false zs c.test-else-every.result
          (subst (λ n. Answer 32 n ys zs (tested (trees ys) k (meant ys c.in_ok-rest.rest) (meant ys 1)) (mk k (meant ys c.in_ok-rest.rest) (meant ys 1)) c.test-else-every.result) c.ladder.ensures.width c.test-else-every.ensures.gives);
    }
