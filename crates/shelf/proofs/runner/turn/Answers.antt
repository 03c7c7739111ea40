use Rattle.std.proofs.Common.{◌≡◌, Ok, Err, Result, sym, refl, ap, ◌∙◌, subst, rules}
use Rattle.tape.specs.declared.refusal.Refusal.{Refusal}
use Rattle.shelf.specs.Calls.{declare_answer, open_answer, feed_answer, file_answer, abandon_answer, ask_answer, shape_answer}
use Rattle.shelf.specs.Drafts.{given_out, handed_on, handed_back}
use Rattle.shelf.specs.Stands.{Moved, numbering}
use Rattle.shelf.specs.Law.{told, told_load, Answered, after}
use Rattle.shelf.specs.declared.draft.Draft.{Draft}
use Rattle.shelf.specs.declared.draft.DraftId.{DraftId}
use Rattle.shelf.specs.declared.exchange.Answer.{Answer}
use Rattle.shelf.specs.declared.exchange.Answer.TheVariants.{Fact, Opened, Took, Filed, Abandoned, Loaded, Code, Shaped, Refused, RefusedThere}
use Rattle.shelf.proofs.runner.turn.Goals as goal

-- an answer that was told, by what a call came to
plainly : {A : Type 0} (good : A → Answer) (r s : Result A Refusal) (a : Answer) → s ≡ r → ((x : A) → s ≡ Ok x → a ≡ good x) → ((e : Refusal) → s ≡ Err e → a ≡ Refused e) → a ≡ told good r
plainly good (Ok x) s a q ok err = ok x q
plainly good (Err e) s a q ok err = err e q

-- the same where a draft is given out, handed on, or handed back
given : (r : Result DraftId Refusal) (s : Result Draft Refusal) (a : Answer) → s ≡ given_out r → ((x : Draft) → s ≡ Ok x → a ≡ Opened x.id) → ((e : Refusal) → s ≡ Err e → a ≡ Refused e) → a ≡ told Opened r
given (Ok d) s a q ok err = ok (record { id = d }) q
given (Err e) s a q ok err = err e q

on : {A : Type 0} (good : A → Answer) (d : Draft) (r : Result A Refusal) (s : Result (A × Draft) (Refusal × Draft)) (a : Answer) → s ≡ handed_on d r → ((x : A × Draft) → s ≡ Ok x → a ≡ good x.0) → ((e : Refusal × Draft) → s ≡ Err e → a ≡ Refused e.0) → a ≡ told good r
on good d (Ok x) s a q ok err = ok (x, d) q
on good d (Err e) s a q ok err = err (e, d) q

back : {A : Type 0} (good : A → Answer) (d : Draft) (r : Result A Refusal) (s : Result A (Refusal × Draft)) (a : Answer) → s ≡ handed_back d r → ((x : A) → s ≡ Ok x → a ≡ good x) → ((e : Refusal × Draft) → s ≡ Err e → a ≡ Refused e.0) → a ≡ told good r
back good d (Ok x) s a q ok err = ok x q
back good d (Err e) s a q ok err = err (e, d) q

pub returns-in-Declare-clause-moves : goal.returns-in-Declare-clause-moves
returns-in-Declare-clause-moves c = λ K Q cat u.
    let e = c.declare.ensures.moves K Q cat u in
    let a : Answer = c.told.result in
    subst (λ x. Answered K Q (numbering c.args.shelf.now) cat x a × Moved K Q c.args.shelf.now c.declare.new.self cat (after K cat x)) (sym c.in-Declare.is)
    (plainly Fact (declare_answer cat c.in-Declare.name) c.declare.result a e.0 (λ x h. c.told.ensures.ok x h) c.told.ensures.err, e.1)

pub returns-in-Open-clause-moves : goal.returns-in-Open-clause-moves
returns-in-Open-clause-moves c = λ K Q cat u.
    let e = c.open.ensures.moves K Q cat u in
    let a : Answer = c.told-in-Open.result in
    subst (λ x. Answered K Q (numbering c.args.shelf.now) cat x a × Moved K Q c.args.shelf.now c.open.new.self cat (after K cat x)) (sym c.in-Open.is)
    (given (open_answer cat) c.open.result a e.0 (λ x h. let m = c.told-in-Open.ensures.ok x h in search rules) c.told-in-Open.ensures.err, e.1)

pub returns-in-Feed-clause-moves : goal.returns-in-Feed-clause-moves
returns-in-Feed-clause-moves c = λ K Q cat u.
    let e = c.feed.ensures.moves K Q cat u in
    let a : Answer = c.told_back.result in
    subst (λ x. Answered K Q (numbering c.args.shelf.now) cat x a × Moved K Q c.args.shelf.now c.feed.new.self cat (after K cat x)) (sym c.in-Feed.is)
    (on Took _ (feed_answer K cat c.in-Feed.id c.in-Feed.bytes.now) c.feed.result a e.0 (λ x h. let m = c.told_back.ensures.ok x h in search rules) c.told_back.ensures.err, e.1)

pub returns-in-File-clause-moves : goal.returns-in-File-clause-moves
returns-in-File-clause-moves c = λ K Q cat u.
    let e = c.file.ensures.moves K Q cat u in
    let a : Answer = c.told_back-in-File.result in
    subst (λ x. Answered K Q (numbering c.args.shelf.now) cat x a × Moved K Q c.args.shelf.now c.file.new.self cat (after K cat x)) (sym c.in-File.is)
    (back Filed _ (file_answer cat c.in-File.id) c.file.result a e.0 (λ x h. c.told_back-in-File.ensures.ok x h) c.told_back-in-File.ensures.err, e.1)

pub returns-in-Abandon-clause-moves : goal.returns-in-Abandon-clause-moves
returns-in-Abandon-clause-moves c = λ K Q cat u.
    let e = c.abandon.ensures.moves K Q cat u in
    let a : Answer = c.told_back-in-Abandon.result in
    subst (λ x. Answered K Q (numbering c.args.shelf.now) cat x a × Moved K Q c.args.shelf.now c.abandon.new.self cat (after K cat x)) (sym c.in-Abandon.is)
    (back (λ _. Abandoned) _ (abandon_answer cat c.in-Abandon.id) c.abandon.result a e.0 (λ x h. let m = c.told_back-in-Abandon.ensures.ok x h in search rules) c.told_back-in-Abandon.ensures.err, e.1)

pub returns-in-Ask-clause-moves : goal.returns-in-Ask-clause-moves
returns-in-Ask-clause-moves c = λ K Q cat u.
    let e = c.ask.ensures.stands K Q cat u in
    let a : Answer = c.told-in-Ask.result in
    subst (λ x. Answered K Q (numbering c.args.shelf.now) cat x a × Moved K Q c.args.shelf.now c.args.shelf.now cat (after K cat x)) (sym c.in-Ask.is)
    (plainly Code (ask_answer K cat c.in-Ask.policy c.in-Ask.request) c.ask.result a e (λ x h. c.told-in-Ask.ensures.ok x h) c.told-in-Ask.ensures.err, record { stands = u; stay = λ p h k. refl })

pub returns-in-Shape-clause-moves : goal.returns-in-Shape-clause-moves
returns-in-Shape-clause-moves c = λ K Q cat u.
    let e = c.shape.ensures.stands K Q cat u in
    let a : Answer = c.told-in-Shape.result in
    subst (λ x. Answered K Q (numbering c.args.shelf.now) cat x a × Moved K Q c.args.shelf.now c.args.shelf.now cat (after K cat x)) (sym c.in-Shape.is)
    (plainly Shaped (shape_answer (numbering c.args.shelf.now) cat c.in-Shape.policy) c.shape.result a e (λ x h. c.told-in-Shape.ensures.ok x h) c.told-in-Shape.ensures.err, record { stands = u; stay = λ p h k. refl })

pub returns-in-Ok-clause-moves : goal.returns-in-Ok-clause-moves
returns-in-Ok-clause-moves c = λ K Q cat u.
    let e = c.load.ensures.moves K Q cat u in
    subst (λ x. Answered K Q (numbering c.args.shelf.now) cat x (Loaded c.in-Ok.policy c.in-Ok.held) × Moved K Q c.args.shelf.now c.load.new.self cat (after K cat x)) (sym c.in-Load.is) (ap told_load (sym c.in-Ok.is ∙ e.0), e.1)

pub returns-in-Err-clause-moves : goal.returns-in-Err-clause-moves
returns-in-Err-clause-moves c = λ K Q cat u.
    let e = c.load.ensures.moves K Q cat u in
    subst (λ x. Answered K Q (numbering c.args.shelf.now) cat x (RefusedThere c.in-Err.refused) × Moved K Q c.args.shelf.now c.load.new.self cat (after K cat x)) (sym c.in-Load.is) (ap told_load (sym c.in-Err.is ∙ e.0), e.1)
