-- A table as it is filled, and what becomes of an input.
use Rattle.std.proofs.Common.{◌≡◌, ℕ, ◌+◌, ◌^◌, ◌<◌, ◌≤◌, Bool, true, false, cond, ltb, List, [], ◌∷◌, ◌++◌, map, length, get_or, take, Ok, Err, Result, sym, ap, ◌∙◌, subst, arith}
use Rattle.std.proofs.lemmas.List.{take_more, map_push, map_more}
use Rattle.std.proofs.lemmas.Bool.{le-ltb, lt-leb, cond-false}
use Rattle.effects.specs.Codes.{Codes}
use Rattle.tape.specs.Refusals.{at_place}
use Rattle.tape.specs.Requests.{Over}
use Rattle.tape.specs.Tape.{Row as Commands, read_answer, told, tape_from, no_tests}
use Rattle.tape.specs.declared.refusal.RefusedAt.{RefusedAt}
use Rattle.tape.specs.declared.refusal.Refusal.TheVariants.{TapeTooLong}
use Rattle.tabulation.specs.Inputs.{Asked}
use Rattle.tabulation.specs.Order.{requests, Ordered}
use Rattle.tabulation.proofs.Listing.{in_order}
use Rattle.tabulation.specs.Tables.{masks, answers, codes_of, reads, Filled, Becomes}
use Rattle.tabulation.specs.declared.input.EffectSet.{EffectSet}
use Rattle.tabulation.specs.declared.input.Input.{Input}
use Rattle.tabulation.specs.declared.rows.Row.{Row}
use Rattle.tabulation.specs.declared.rows.Table.{Table}
use Rattle.tabulation.specs.declared.error.TabulateError.{TabulateError}
use Rattle.tabulation.specs.declared.error.TabulateError.TheVariants.{Unreadable, Refused, OutOfMemory}

-- one row more
pub masks_more : (rows rows' : List Row) (row : Row) (ms : List ℕ) (i : ℕ) → i < length ms → rows' ≡ rows ++ row ∷ [] → masks rows ≡ take i ms → row.mask ≡ get_or ms i 0 → masks rows' ≡ take (i + 1) ms
masks_more rows rows' row ms i h p q e =
    ap masks p ∙ map_push (λ x. x.mask) rows row
    ∙ ap (λ (xs : List ℕ). xs ++ row.mask ∷ []) q ∙ ap (λ (m : ℕ). take i ms ++ m ∷ []) e ∙ sym (take_more ms i 0 h)

pub answers_more : (f : ℕ → Result ℕ RefusedAt) (rows rows' : List Row) (row : Row) (ms : List ℕ) (i : ℕ) → i < length ms → rows' ≡ rows ++ row ∷ [] → answers rows ≡ map f (take i ms) → Ok row.code ≡ f (get_or ms i 0) → answers rows' ≡ map f (take (i + 1) ms)
answers_more f rows rows' row ms i h p q e =
    ap answers p ∙ map_push (λ x. Ok x.code) rows row
    ∙ ap (λ (xs : List (Result ℕ RefusedAt)). xs ++ Ok row.code ∷ []) q ∙ ap (λ (m : Result ℕ RefusedAt). map f (take i ms) ++ m ∷ []) e ∙ sym (map_more f ms i 0 h)

-- a tape refused at one request is refused at every one
refused_alike : (K : Codes) (long : Bool) (v : Result Commands RefusedAt) (r s : ℕ) (e : RefusedAt) → cond long (Err (at_place TapeTooLong 0)) (told K r v) ≡ Err e → cond long (Err (at_place TapeTooLong 0)) (told K s v) ≡ Err e
refused_alike K true v r s e p = p
refused_alike K false (Ok row) r s e p = let z : ◌≡◌ {A = ℕ} 0 1 = cc in absurd (omega arith)
refused_alike K false (Err x) r s e p = p

refused_everywhere : (K : Codes) (n : ℕ) (tape : List ℕ) (r s : ℕ) (e : RefusedAt) → n ≤ 32 → Over n r → Over n s → read_answer K n tape r ≡ Err e → read_answer K n tape s ≡ Err e
unfolding read_answer
refused_everywhere K n tape r s e few hr hs p =
    cond-false _ _ _ (le-ltb 32 n few) ∙ cond-false _ _ _ (lt-leb (2 ^ n) s hs)
    ∙ refused_alike K (ltb 65535 (length tape)) (tape_from (length tape) K n no_tests [] 0 tape) r s e
    (sym (cond-false _ _ _ (le-ltb 32 n few) ∙ cond-false _ _ _ (lt-leb (2 ^ n) r hr)) ∙ p)

-- what an input asks for
abbrev asks : Input → Asked
asks i = record { facts = i.facts; effects = i.effects; tape = i.tape.now }

pub becomes : (i : Input) (s : EffectSet) (ms : List ℕ) → i.effects ≡ s → i.facts ≤ 32 → ms ≡ requests i.facts → (r : Result Table TabulateError) → Filled (codes_of s) i ms r → Becomes (asks i) r
becomes i s ms p few e (Ok t) f = record {
  effects = f.0;
  listed = f.1 ∙ e;
  ordered = subst (Ordered i.facts) (sym (f.1 ∙ e)) (in_order i.facts);
  told = f.2 ∙ ap (λ (x : EffectSet). map (read_answer (codes_of x) i.facts i.tape.now) ms) (sym p) ∙ ap (map (reads (asks i))) e;
}
becomes i s ms p few e (Err (Unreadable b)) f = f
becomes i s ms p few e (Err (Refused x)) f = λ r h.
    ap (λ (t : EffectSet). read_answer (codes_of t) i.facts i.tape.now r) p
    ∙ refused_everywhere (codes_of s) i.facts i.tape.now (get_or ms f.0 0) r x few (subst (λ (xs : List ℕ). (k : ℕ) → k < length xs → Over i.facts (get_or xs k 0)) (sym e) (in_order i.facts).over f.0 f.1) h f.2
becomes i s ms p few e (Err OutOfMemory) f = f
