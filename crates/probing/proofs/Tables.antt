-- What holds of the serials and the keys of a table.
use Rattle.std.proofs.Common.{◌≡◌, ℕ, zero, suc, ◌+◌, ◌-◌, ◌<◌, ◌≤◌, Bool, true, false, cond, eqb, ◌⊎◌, List, [], ◌∷◌, ◌++◌, map, length, get_or, take, set, Some, None, sym, refl, ap, ◌∙◌, subst, inl, inr, mod-lt, arith}
use mathlib.Core.Logic.{∥∥₁_elim}
use mathlib.Core.HLevel.{Π_prop}
use denote.Struct.Props.{props}
use Rattle.std.proofs.lemmas.List.{length-set, length-map, length-take-le, get_or-set_same, get_or-set_other, take_more_set}
use Rattle.std.specs.Cmp.{IsPartialEquivalence, both_ways as each_way}
use Rattle.std.proofs.lemmas.Bool.{cases_order, both_ways, eq-eqb, eqb-true, lt-ltb, le-ltb}
use Rattle.std.proofs.lemmas.Bool.Decides.{nat_tests}
use Rattle.probing.specs.Table.{Holds, spot, number_from, number_of, gap, home, Sound, Distinct, Stopped, Nowhere, cut, free, numbered, grown, answered, extended}
use Rattle.probing.proofs.Ring.{gap_same}
use Rattle.probing.proofs.Places.{holds_set, holds_take, holds_taken, holds_push, at_place}
use Rattle.probing.proofs.Pigeons.{pigeons}

-- the laws of a kind of key, as the library has them
pub partial : {K : Type 0} (same : K → K → Bool) → ((x y : K) → same x y ≡ true → same y x ≡ true) → ((x y z : K) → same x y ≡ true → same y z ≡ true → same x z ≡ true) → IsPartialEquivalence same
partial same turned along = record { symm = λ x y. each_way (same x y) (same y x) (turned x y) (turned y x); trans = along }

pub false_from : (b : Bool) → (b ≡ true → ⊥) → b ≡ false
false_from true h = absurd (h refl)
false_from false h = refl

-- `Sound` has one proof at most
module _ {K : Type 0} (same : K → K → Bool) (hash : K → ℕ) (bs : List ℕ) (ks : List K) (c : ℕ) where
  level_prop : IsProp (length bs ≡ length ks)
  level_prop = hlevel props

  narrow_prop : IsProp (length bs < 65536)
  narrow_prop = hlevel props

  fits_prop : IsProp (c ≤ length ks)
  fits_prop = hlevel props

  full_prop : IsProp ((n : ℕ) → n < c → get_or bs (spot bs (n + 1)) 0 ≡ n + 1)
  full_prop = hlevel props

  counted_prop : IsProp ((h : ℕ) → get_or bs h 0 ≤ c)
  counted_prop = hlevel props

  single_prop : IsProp ((i j : ℕ) → 0 < get_or bs i 0 → get_or bs i 0 ≡ get_or bs j 0 → i ≡ j)
  single_prop = hlevel props

  apart_prop : IsProp (Distinct same (take c ks))
  apart_prop = Π_prop λ n. Π_prop λ m. Π_prop λ k. Π_prop λ l. hlevel props

  aged_prop : IsProp ((i p : ℕ) (k : K) → 0 < get_or bs i 0 → Holds ks (get_or bs i 0 - 1) k → p < length bs → gap (length bs) (home (length bs) (hash k)) p < gap (length bs) (home (length bs) (hash k)) i → (0 < get_or bs p 0) × (get_or bs p 0 < get_or bs i 0))
  aged_prop = Π_prop λ i. Π_prop λ p. Π_prop λ k. hlevel props

  sound_prop : IsProp (Sound same hash bs ks c)
  sound_prop x y = λ i. record {
    level = level_prop x.level y.level i;
    narrow = narrow_prop x.narrow y.narrow i;
    fits = fits_prop x.fits y.fits i;
    full = full_prop x.full y.full i;
    counted = counted_prop x.counted y.counted i;
    single = single_prop x.single y.single i;
    apart = apart_prop x.apart y.apart i;
    aged = aged_prop x.aged y.aged i;
  }

  pub opened : ∥ Sound same hash bs ks c ∥₁ → Sound same hash bs ks c
  opened w = ∥∥₁_elim w sound_prop (λ x. x)

-- a bucket that is not free is there
pub inside : (bs : List ℕ) (h : ℕ) → 0 < get_or bs h 0 → h < length bs
inside [] h p = absurd (let q : 0 < 0 = p in omega arith)
inside (x ∷ xs) zero p = omega arith
inside (x ∷ xs) (suc h) p = let r : h < length xs = inside xs h p in omega arith

-- a serial that some bucket has is found
spot_finds : (bs : List ℕ) (h m : ℕ) → 0 < m → get_or bs h 0 ≡ m → get_or bs (spot bs m) 0 ≡ m
spot_finds [] h m p e = absurd (let q : 0 ≡ m = e in omega arith)
spot_finds (x ∷ xs) zero m p e = rw (eq-eqb x m e) e
spot_finds (x ∷ xs) (suc h) m p e = go (eqb x m) refl (spot_finds xs h m p e)
  where
    go : (b : Bool) → eqb x m ≡ b → get_or xs (spot xs m) 0 ≡ m → get_or (x ∷ xs) (spot (x ∷ xs) m) 0 ≡ m
    go true q ih = rw q (eqb-true x m q)
    go false q ih = rw q ih

module _ {K : Type 0} (same : K → K → Bool) (k : K) where
  pub number_hit : (ks : List K) (b n : ℕ) (x : K) → Holds ks n x → same x k ≡ true → ((m : ℕ) (y : K) → Holds ks m y → m < n → same y k ≡ false) → number_from same k b ks ≡ Some (b + n)
  number_hit [] b n x h e before = absurd (omega (arith, h.0))
  number_hit (y ∷ ys) b zero x h e before =
      let q : same y k ≡ true = rw h.1 at e in
      let z : b ≡ b + 0 = omega arith in
      rw q (ap Some z)
  number_hit (y ∷ ys) b (suc n) x h e before =
      let q = before 0 y (omega arith, refl) (omega arith) in
      let ih = number_hit ys (b + 1) n x (omega (arith, h.0), h.1) e (λ m z g l. before (suc m) z (omega (arith, g.0), g.1) (omega arith)) in
      let z : b + 1 + n ≡ b + suc n = omega arith in
      rw q (ih ∙ ap Some z)

  pub number_miss : (ks : List K) (b : ℕ) → ((m : ℕ) (y : K) → Holds ks m y → same y k ≡ false) → number_from same k b ks ≡ None
  number_miss [] b none = refl
  number_miss (y ∷ ys) b none =
      let q = none 0 y (omega arith, refl) in
      rw q (number_miss ys (b + 1) (λ m z g. none (suc m) z (omega (arith, g.0), g.1)))

module _ {K : Type 0} (same : K → K → Bool) (hash : K → ℕ) (bs : List ℕ) (ks : List K) (c : ℕ) (sound : Sound same hash bs ks c) where
  pub length_keys : length (take c ks) ≡ c
  length_keys = length-take-le c ks sound.fits

  -- a number's bucket
  bucket_of : (n : ℕ) → n < c → (spot bs (n + 1) < length bs) × (get_or bs (spot bs (n + 1)) 0 ≡ n + 1)
  bucket_of n l =
      let e = sound.full n l in
      (inside bs (spot bs (n + 1)) (omega arith), e)

  led_to : (n : ℕ) (y : K) → n < c → Holds ks n y → Holds ks (get_or bs (spot bs (n + 1)) 0 - 1) y
  led_to n y l h =
      let e = sound.full n l in
      let z : n ≡ get_or bs (spot bs (n + 1)) 0 - 1 = omega arith in
      subst (λ m. Holds ks m y) z h

  -- the key to which a bucket leads is one of the keys
  pub leads : (i : ℕ) (l : K) → 0 < get_or bs i 0 → Holds ks (get_or bs i 0 - 1) l → Holds (take c ks) (get_or bs i 0 - 1) l
  leads i l p h = holds_taken ks c (get_or bs i 0 - 1) l (omega (arith, sound.counted i)) h

  pub leads_in : (i : ℕ) → 0 < get_or bs i 0 → get_or bs i 0 - 1 < length ks
  leads_in i p = omega (arith, sound.counted i, sound.fits)

  -- the number of a key that is there
  pub number_found : IsPartialEquivalence same → (k : K) (n : ℕ) (x : K) → Holds (take c ks) n x → same x k ≡ true → number_of same k (take c ks) ≡ Some n
  number_found laws k n x h e =
      number_hit same k (take c ks) 0 n x h e (λ m y g l. false_from (same y k) (λ f. omega (arith, sound.apart m n y x g h (laws.trans y k x f (laws.symm k x ∙ e))))) ∙ ap Some (omega arith)

  -- and where a search stopped at its bucket
  pub number_there : IsPartialEquivalence same → (k : K) (i : ℕ) → Stopped same hash bs ks k i → 0 < get_or bs i 0 → number_of same k (take c ks) ≡ Some (get_or bs i 0 - 1)
  number_there laws k i stop taken =
      let a = at_place ks (get_or bs i 0 - 1) (leads_in i taken) in
      number_found laws k (get_or bs i 0 - 1) a.0 (leads i a.0 taken a.1) (stop.there a.0 taken a.1)

  pub number_absent : (k : K) → ((n : ℕ) (y : K) → Holds (take c ks) n y → same y k ≡ false) → number_of same k (take c ks) ≡ None
  number_absent k none = number_miss same k (take c ks) 0 none

  -- A search that stopped at a free bucket shows that the key is not there.
  pub free_absent : ((x y : K) → same x y ≡ true → hash x ≡ hash y) → (k : K) (i : ℕ) → Stopped same hash bs ks k i → get_or bs i 0 ≡ 0 → (n : ℕ) (y : K) → Holds (take c ks) n y → same y k ≡ false
  free_absent even k i stop free n y h = false_from (same y k) (λ e. refuted e)
    where
      refuted : same y k ≡ true → ⊥
      refuted e =
          let w = length bs in
          let t = holds_take ks c n y h in
          let j = spot bs (n + 1) in
          let b = bucket_of n t.0 in
          let led = led_to n y t.0 t.1 in
          let ringed : home w (hash k) < w = mod-lt (hash k) (omega (arith, stop.within)) in
          let sc : hash y ≡ hash k = even y k e in
          elim (cases_order (gap w (home w (hash k)) j) (gap w (home w (hash k)) i)) [
            | inl q ↦
                let at : j ≡ i = gap_same w (home w (hash k)) ringed j i b.0 stop.within q in
                let m : get_or bs j 0 ≡ get_or bs i 0 = ap (λ x. get_or bs x 0) at in
                omega (arith, b.1)
            | inr o ↦ elim o [
              | inl a ↦ both_ways (same y k) ((stop.passed j b.0 a).1 y led) e
              | inr a ↦
                  let a' : gap w (home w (hash y)) i < gap w (home w (hash y)) j = rw sc a in
                  omega (arith, (sound.aged j i y (omega (arith, b.1)) led stop.within a').0)
            ]
          ]

  -- And so does one that went past all buckets.
  pub nowhere_absent : (k : K) → Nowhere same bs ks k → (n : ℕ) (y : K) → Holds (take c ks) n y → same y k ≡ false
  nowhere_absent k none n y h =
      let t = holds_take ks c n y h in
      (none (spot bs (n + 1)) (bucket_of n t.0).0).1 y (led_to n y t.0 t.1)

  -- there are fewer keys than buckets where one is free
  pub room : (i : ℕ) → i < length bs → get_or bs i 0 ≡ 0 → c < length bs
  room i in-range free =
      let r : suc c ≤ length bs = pigeons (length bs) (suc c) to (λ n l. lands n l) (λ n m l k e. alone n m l k e) in omega arith
    where
      to : ℕ → ℕ
      to n = cond (eqb n c) i (spot bs (n + 1))

      far : (n : ℕ) → n < c → spot bs (n + 1) ≡ i → ⊥
      far n l e =
          let v : get_or bs (spot bs (n + 1)) 0 ≡ get_or bs i 0 = ap (λ x. get_or bs x 0) e in
          omega (arith, sound.full n l)

      apiece : (n m : ℕ) → n < c → m < c → spot bs (n + 1) ≡ spot bs (m + 1) → n ≡ m
      apiece n m l k e =
          let v : get_or bs (spot bs (n + 1)) 0 ≡ get_or bs (spot bs (m + 1)) 0 = ap (λ x. get_or bs x 0) e in
          omega (arith, sound.full n l, sound.full m k)

      lands : (n : ℕ) → n < suc c → to n < length bs
      lands n l =
          let x : n < c → spot bs (n + 1) < length bs = λ q. (bucket_of n q).0 in
          grind (arith, nat_tests)

      alone : (n m : ℕ) → n < suc c → m < suc c → to n ≡ to m → n ≡ m
      alone n m l k e =
          let x : n < c → m < c → spot bs (n + 1) ≡ spot bs (m + 1) → n ≡ m = apiece n m in
          let y : n < c → spot bs (n + 1) ≡ i → ⊥ = far n in
          let z : m < c → spot bs (m + 1) ≡ i → ⊥ = far m in
          grind (arith, nat_tests)

  -- where every bucket is taken there are as many keys as buckets
  pub full_up : ((p : ℕ) → p < length bs → 0 < get_or bs p 0) → length bs ≤ c
  full_up taken = pigeons c (length bs) (λ j. get_or bs j 0 - 1) (λ j l. lands j l) (λ i j l m e. alone i j l m e)
    where
      lands : (j : ℕ) → j < length bs → get_or bs j 0 - 1 < c
      lands j l = omega (arith, taken j l, sound.counted j)

      alone : (i j : ℕ) → i < length bs → j < length bs → get_or bs i 0 - 1 ≡ get_or bs j 0 - 1 → i ≡ j
      alone i j l m e =
          let p = taken i l in
          let q = taken j m in
          sound.single i j p (omega arith)

-- no key and no number
pub sound_none : {K : Type 0} (same : K → K → Bool) (hash : K → ℕ) (bs : List ℕ) (ks : List K) → length bs ≡ length ks → length bs < 65536 → ((h : ℕ) → get_or bs h 0 ≡ 0) → Sound same hash bs ks 0
sound_none same hash bs ks level narrow free = record {
  level = level;
  narrow = narrow;
  fits = omega arith;
  full = λ n l. absurd (omega arith);
  counted = λ h. omega (arith, free h);
  single = λ i j p e. absurd (omega (arith, free i));
  apart = λ n m k l h g e. absurd (omega (arith, h.0));
  aged = λ i p k q h l g. absurd (omega (arith, free i));
}

-- A new key written at the next number, and that number's serial into the free bucket at which the search for it stopped.
module _ {K : Type 0} (same : K → K → Bool) (hash : K → ℕ) (bs : List ℕ) (ks : List K) (c : ℕ) (sound : Sound same hash bs ks c)
    (laws : IsPartialEquivalence same) (even : (x y : K) → same x y ≡ true → hash x ≡ hash y)
    (k : K) (i : ℕ) (stop : Stopped same hash bs ks k i) (free : get_or bs i 0 ≡ 0) where
  below : c < length ks
  below = omega (arith, room same hash bs ks c sound i stop.within free, sound.level)

  serial_at : (j : ℕ) → ((j ≡ i) × (get_or (set bs i (c + 1)) j 0 ≡ c + 1)) ⊎ ((j ≡ i → ⊥) × (get_or (set bs i (c + 1)) j 0 ≡ get_or bs j 0))
  serial_at j = elim (cases_order j i) [
    | inl e ↦ inl (e, ap (λ x. get_or (set bs i (c + 1)) x 0) e ∙ get_or-set_same bs i (c + 1) 0 stop.within)
    | inr o ↦ let ne : j ≡ i → ⊥ = apart_from j i o in inr (ne, get_or-set_other bs i j (c + 1) 0 ne)
  ]
    where
      apart_from : (j i : ℕ) → (j < i) ⊎ (i < j) → j ≡ i → ⊥
      apart_from j i o e = elim o [ inl a ↦ omega arith | inr b ↦ omega arith ]

  pub put_keys : take (c + 1) (set ks c k) ≡ take c ks ++ k ∷ []
  put_keys = take_more_set ks c k below

  pub put_sound : Sound same hash (set bs i (c + 1)) (set ks c k) (c + 1)
  put_sound = record {
    level = length-set bs i (c + 1) ∙ sound.level ∙ sym (length-set ks c k);
    narrow = let e = length-set bs i (c + 1) in omega (arith, sound.narrow);
    fits = let e = length-set ks c k in omega (arith, below);
    full = λ n l. full n l;
    counted = λ h. elim (serial_at h) [ inl a ↦ omega (arith, a.1) | inr b ↦ omega (arith, b.1, sound.counted h) ];
    single = λ a b p e. single a b p e;
    apart = subst (Distinct same) (sym put_keys) (λ n m x y h g e. apart n m x y h g e);
    aged = λ a p x q h l g. aged a p x q h l g;
  }
    where
      full : (n : ℕ) → n < c + 1 → get_or (set bs i (c + 1)) (spot (set bs i (c + 1)) (n + 1)) 0 ≡ n + 1
      full n l = elim (cases_order n c) [
        | inl e ↦ spot_finds (set bs i (c + 1)) i (n + 1) (omega arith) (get_or-set_same bs i (c + 1) 0 stop.within ∙ omega arith)
        | inr o ↦ elim o [
          | inl a ↦
              let f = sound.full n a in
              spot_finds (set bs i (c + 1)) (spot bs (n + 1)) (n + 1) (omega arith) (elim (serial_at (spot bs (n + 1))) [
                | inl u ↦ absurd (omega (arith, ap (λ x. get_or bs x 0) u.0))
                | inr v ↦ v.1 ∙ f
              ])
          | inr b ↦ absurd (omega arith)
        ]
      ]

      single : (a b : ℕ) → 0 < get_or (set bs i (c + 1)) a 0 → get_or (set bs i (c + 1)) a 0 ≡ get_or (set bs i (c + 1)) b 0 → a ≡ b
      single a b p e = elim (serial_at a) [
        | inl u ↦ elim (serial_at b) [
          | inl v ↦ u.0 ∙ sym v.0
          | inr v ↦ absurd (omega (arith, u.1, v.1, sound.counted b))
        ]
        | inr u ↦ elim (serial_at b) [
          | inl v ↦ absurd (omega (arith, u.1, v.1, sound.counted a))
          | inr v ↦ sound.single a b (omega (arith, u.1)) (omega (arith, u.1, v.1))
        ]
      ]

      fresh : (n : ℕ) (y : K) → Holds (take c ks) n y → same y k ≡ false
      fresh = free_absent same hash bs ks c sound even k i stop free

      apart : Distinct same (take c ks ++ k ∷ [])
      apart n m x y h g e = elim (holds_push (take c ks) k n x h) [
        | inl u ↦ elim (holds_push (take c ks) k m y g) [
          | inl v ↦ sound.apart n m x y u v e
          | inr v ↦ absurd (both_ways (same x k) (fresh n x u) (rw v.1 at e))
        ]
        | inr u ↦ elim (holds_push (take c ks) k m y g) [
          | inl v ↦ absurd (both_ways (same y k) (fresh m y v) (let t : same k y ≡ true = rw u.1 at e in laws.symm y k ∙ t))
          | inr v ↦ u.0 ∙ sym v.0
        ]
      ]

      aged : (a p : ℕ) (x : K) → 0 < get_or (set bs i (c + 1)) a 0 → Holds (set ks c k) (get_or (set bs i (c + 1)) a 0 - 1) x → p < length (set bs i (c + 1))
          → gap (length (set bs i (c + 1))) (home (length (set bs i (c + 1))) (hash x)) p < gap (length (set bs i (c + 1))) (home (length (set bs i (c + 1))) (hash x)) a
          → (0 < get_or (set bs i (c + 1)) p 0) × (get_or (set bs i (c + 1)) p 0 < get_or (set bs i (c + 1)) a 0)
      aged a p x q h l g =
          let w = length bs in
          let l' : p < w = simp length-set at l in
          let g' : gap w (home w (hash x)) p < gap w (home w (hash x)) a = simp length-set at g in
          elim (serial_at a) [
            | inl u ↦
                let z : get_or (set bs i (c + 1)) a 0 - 1 ≡ c = omega (arith, u.1) in
                let h' : Holds (set ks c k) c x = subst (λ n. Holds (set ks c k) n x) z h in
                let s : x ≡ k = h'.1 ∙ get_or-set_same ks c k x below in
                let g'' : gap w (home w (hash k)) p < gap w (home w (hash k)) i = rw (s, u.0) at g' in
                elim (serial_at p) [
                  | inl v ↦ absurd (omega (arith, ap (gap w (home w (hash k))) v.0))
                  | inr v ↦ (omega (arith, v.1, (stop.passed p l' g'').0), omega (arith, u.1, v.1, sound.counted p))
                ]
            | inr u ↦
                let h' : Holds (set ks c k) (get_or bs a 0 - 1) x = subst (λ n. Holds (set ks c k) (n - 1) x) u.1 h in
                elim (holds_set ks c (get_or bs a 0 - 1) k x below h') [
                  | inl s ↦ absurd (omega (arith, s.0, sound.counted a, u.1))
                  | inr s ↦
                      let old = sound.aged a p x (omega (arith, u.1)) s.1 l' g' in
                      elim (serial_at p) [
                        | inl v ↦ absurd (omega (arith, ap (λ x. get_or bs x 0) v.0, old.0))
                        | inr v ↦ (omega (arith, v.1, old.0), omega (arith, u.1, v.1, old.1))
                      ]
                ]
          ]

-- The serials, where the numbers from n on are given up.
cut_zero : (n : ℕ) → cut n 0 ≡ 0
cut_zero n = grind (arith, nat_tests)

pub cut_read : (n : ℕ) (bs : List ℕ) (h : ℕ) → get_or (map (cut n) bs) h 0 ≡ cut n (get_or bs h 0)
cut_read n [] h = sym (cut_zero n)
cut_read n (x ∷ xs) zero = refl
cut_read n (x ∷ xs) (suc h) = cut_read n xs h

pub cut_le : (n m : ℕ) → cut n m ≤ n
cut_le n m = grind (arith, nat_tests)

pub cut_stays : (n m : ℕ) → m ≤ n → cut n m ≡ m
cut_stays n m l = grind (arith, nat_tests)

cut_kept : (n m : ℕ) → 0 < cut n m → cut n m ≡ m
cut_kept n m p = grind (arith, nat_tests)

module _ {K : Type 0} (same : K → K → Bool) (hash : K → ℕ) (bs : List ℕ) (ks : List K) (c : ℕ) (sound : Sound same hash bs ks c) (n : ℕ) (fewer : n ≤ c) where
  serial_left : (h : ℕ) → 0 < get_or (map (cut n) bs) h 0 → get_or (map (cut n) bs) h 0 ≡ get_or bs h 0
  serial_left h p = cut_read n bs h ∙ cut_kept n (get_or bs h 0) (rw (cut_read n bs h) at p)

  pub trim_sound : Sound same hash (map (cut n) bs) ks n
  trim_sound = record {
    level = length-map bs (cut n) ∙ sound.level;
    narrow = let e = length-map bs (cut n) in omega (arith, sound.narrow);
    fits = omega (arith, sound.fits);
    full = λ m l. full m l;
    counted = λ h. subst (λ x. x ≤ n) (sym (cut_read n bs h)) (cut_le n (get_or bs h 0));
    single = λ i j p e. single i j p e;
    apart = λ a b x y h g e. apart a b x y h g e;
    aged = λ i p k q h l g. aged i p k q h l g;
  }
    where
      full : (m : ℕ) → m < n → get_or (map (cut n) bs) (spot (map (cut n) bs) (m + 1)) 0 ≡ m + 1
      full m l =
          let f = sound.full m (omega arith) in
          spot_finds (map (cut n) bs) (spot bs (m + 1)) (m + 1) (omega arith) (cut_read n bs (spot bs (m + 1)) ∙ cut_stays n (get_or bs (spot bs (m + 1)) 0) (omega arith) ∙ f)

      single : (i j : ℕ) → 0 < get_or (map (cut n) bs) i 0 → get_or (map (cut n) bs) i 0 ≡ get_or (map (cut n) bs) j 0 → i ≡ j
      single i j p e =
          let a = serial_left i p in
          let b = serial_left j (omega arith) in
          sound.single i j (omega arith) (omega arith)

      apart : Distinct same (take n ks)
      apart a b x y h g e =
          let u = holds_take ks n a x h in
          let v = holds_take ks n b y g in
          sound.apart a b x y (holds_taken ks c a x (omega (arith, u.0)) u.1) (holds_taken ks c b y (omega (arith, v.0)) v.1) e

      aged : (i p : ℕ) (k : K) → 0 < get_or (map (cut n) bs) i 0 → Holds ks (get_or (map (cut n) bs) i 0 - 1) k → p < length (map (cut n) bs)
          → gap (length (map (cut n) bs)) (home (length (map (cut n) bs)) (hash k)) p < gap (length (map (cut n) bs)) (home (length (map (cut n) bs)) (hash k)) i
          → (0 < get_or (map (cut n) bs) p 0) × (get_or (map (cut n) bs) p 0 < get_or (map (cut n) bs) i 0)
      aged i p k q h l g =
          let w = length bs in
          let a = serial_left i q in
          let most : get_or (map (cut n) bs) i 0 ≤ n = subst (λ x. x ≤ n) (sym (cut_read n bs i)) (cut_le n (get_or bs i 0)) in
          let h' : Holds ks (get_or bs i 0 - 1) k = subst (λ x. Holds ks (x - 1) k) a h in
          let l' : p < w = simp length-map at l in
          let g' : gap w (home w (hash k)) p < gap w (home w (hash k)) i = simp length-map at g in
          let old = sound.aged i p k (omega arith) h' l' g' in
          let b : get_or (map (cut n) bs) p 0 ≡ get_or bs p 0 = cut_read n bs p ∙ cut_stays n (get_or bs p 0) (omega (arith, old.1)) in
          (omega (arith, old.0), omega (arith, old.1))

-- What an insertion answers and leaves, by what is known of the key.
module _ {K : Type 0} (same : K → K → Bool) (k : K) (n : ℕ) (ks : List K) where
  pub at_known : (i : ℕ) → number_of same k ks ≡ Some i → (numbered same k n ks ≡ Some i) × (grown same k n ks ≡ ks)
  at_known i e = (ap (answered n ks) e, ap (extended n ks k) e)

  pub at_new : number_of same k ks ≡ None → length ks < n → (numbered same k n ks ≡ Some (length ks)) × (grown same k n ks ≡ ks ++ k ∷ [])
  at_new e l =
      let t = lt-ltb (length ks) n l in
      (ap (answered n ks) e ∙ ap (λ b. cond b (Some (length ks)) None) t, ap (extended n ks k) e ∙ ap (λ b. cond b (ks ++ k ∷ []) ks) t)

  pub at_refused : number_of same k ks ≡ None → n ≤ length ks → (numbered same k n ks ≡ None) × (grown same k n ks ≡ ks)
  at_refused e l =
      let t = le-ltb (length ks) n l in
      (ap (answered n ks) e ∙ ap (λ b. cond b (Some (length ks)) None) t, ap (extended n ks k) e ∙ ap (λ b. cond b (ks ++ k ∷ []) ks) t)
