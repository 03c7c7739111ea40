use Rattle.std.proofs.Common.{◌≡◌, ℕ, ◌^◌, leb, Ok, Err, sym, ap, ◌∙◌}
use Rattle.std.proofs.lemmas.Result.{err_from_is_err_and}
use Rattle.diagram.specs.Stores.{meaning}
use Rattle.shelf.specs.Stands.{asking}
use Rattle.shelf.proofs.Asked.{no_policy, a_policy, ask_50, ask_52, ask_ok}
use Rattle.shelf.proofs.Asking.{asking_is}
use Rattle.shelf.proofs.shelf.Shelf.ask.Goals as goal

pub returns-in_err-root : goal.returns-in_err-root
returns-in_err-root c =
    let s = c.args.self.now in
    let p = err_from_is_err_and c.from_residual.result c.from_residual.ensures.1 in
    let n = no_policy s c.args.policy _ c.in_err-root.ensures in
    let e : c.from_residual.result ≡ asking s c.args.policy c.args.request = p.1 ∙ ap (λ x. Err x) (p.2 ∙ n.1) ∙ sym (ask_50 s c.args.policy c.args.request n.0) in
    record { says = e; stands = λ K Q cat u. e ∙ asking_is s u c.args.policy c.args.request }

pub returns-then-beyond : goal.returns-then-beyond
returns-then-beyond c =
    let s = c.args.self.now in
    let n = a_policy s c.args.policy _ c.in_ok-root.ensures in
    let e = sym (ask_52 s c.args.policy c.args.request n.0 (ap (λ k. leb (2 ^ k) c.args.request) (sym c.facts.ensures.number) ∙ sym c.if-beyond.ensures)) in
    record { says = e; stands = λ K Q cat u. e ∙ asking_is s u c.args.policy c.args.request }

pub returns : goal.returns
returns c =
    let s = c.args.self.now in
    let n = a_policy s c.args.policy _ c.in_ok-root.ensures in
    let k = ap (λ k. leb (2 ^ k) c.args.request) (sym c.facts.ensures.number) ∙ sym c.if-beyond.ensures in
    let e = ap (λ (v : ℕ). Ok v) (c.evaluate.ensures ∙ ap (λ r. meaning s.store r c.args.request) n.1) ∙ sym (ask_ok s c.args.policy c.args.request n.0 k) in
    record { says = e; stands = λ K Q cat u. e ∙ asking_is s u c.args.policy c.args.request }
