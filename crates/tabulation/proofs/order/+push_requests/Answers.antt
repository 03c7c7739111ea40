use Rattle.std.proofs.Common.{◌≡◌, ℕ, suc, ◌+◌, ◌-◌, ◌*◌, List, ◌++◌, map, vec_items, sym, ap, ◌∙◌, append_assoc, arith}
use Rattle.tabulation.specs.Order.{requests}
use Rattle.tabulation.proofs.Listing.{laid_none, laid_more, weight_more}
use Rattle.tabulation.proofs.order.+push_requests.Goals as goal

pub returns-in_ok-push : goal.returns-in_ok-push
returns-in_ok-push t c =
    c.in_ok-push.ensures.items
    ∙ ap (λ (xs : List ℕ). vec_items c.args.out.now ++ xs)
    (sym (laid_none c.args.mask c.args.weight) ∙ ap (λ (n : ℕ). map (λ q. c.args.mask + c.args.weight * q) (requests n)) (sym c.if-left-eq0.true))

pub push_requests-requires : goal.push_requests-requires
push_requests-requires t c =
    let e : c.args.left ≡ suc (c.args.left - 1) = omega arith in
    let w = weight_more c.args.weight (c.args.left - 1) c.args.left e in
    (omega arith, (omega arith, omega arith))

pub push_requests-requires-else-left-eq0 : goal.push_requests-requires-else-left-eq0
push_requests-requires-else-left-eq0 t c =
    let e : c.args.left ≡ suc (c.args.left - 1) = omega arith in
    let w = weight_more c.args.weight (c.args.left - 1) c.args.left e in
    (omega arith, (omega arith, omega arith))

pub returns-in_ok-push_requests-2 : goal.returns-in_ok-push_requests-2
returns-in_ok-push_requests-2 t c =
    let e : c.args.left ≡ suc (c.args.left - 1) = omega arith in
    let p = c.args.weight in
    let m = c.args.left - 1 in
    let low = map (λ q. c.args.mask + p * 2 * q) (requests m) in
    let high = map (λ q. (c.args.mask + p) + p * 2 * q) (requests m) in
    c.in_ok-push_requests-2.ensures
    ∙ ap (λ (xs : List ℕ). xs ++ high) c.in_ok-push_requests.ensures
    ∙ append_assoc (vec_items c.args.out.now) low high
    ∙ ap (λ (xs : List ℕ). vec_items c.args.out.now ++ xs) (sym (laid_more c.args.mask p m c.args.left e))
