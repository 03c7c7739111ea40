-- The slots of a table, read as its two lists.
use Rattle.std.proofs.Common.{◌≡◌, ℕ, zero, suc, ◌-◌, ◌<◌, ◌≤◌, Bool, true, List, [], ◌∷◌, map, length, get_or, take, set, replicate, Some, None, sym, refl, ap, ◌∙◌, subst, arith}
use Rattle.std.specs.Cmp.{IsPartialEquivalence}
use Rattle.std.proofs.lemmas.List.{length-set, length-map, set-get_or}
use Rattle.std.proofs.lemmas.Bool.{lt-leb}
use Rattle.probing.specs.Table.{Holds, serials, stored, Sound, Stopped, Nowhere, cut, free, trimmed, number_of, nth}
use Rattle.probing.specs.declared.Slot.{Slot}
use Rattle.probing.proofs.Places.{holds_read, holds_mapped, map_set}
use Rattle.probing.proofs.Tables.{opened, length_keys, room, full_up, number_there, number_absent, free_absent, nowhere_absent, cut_stays}

-- The slots as the two lists that they are.
module _ {K : Type 0} where
  pub serial_read : (ss : List (Slot K)) (i : ℕ) (s : Slot K) → Holds ss i s → get_or (serials ss) i 0 ≡ s.serial
  serial_read [] i s h = absurd (omega (arith, h.0))
  serial_read (x ∷ xs) zero s h = ap (λ z. z.serial) (sym h.1)
  serial_read (x ∷ xs) (suc i) s h = serial_read xs i s (omega (arith, h.0), h.1)

  pub key_read : (ss : List (Slot K)) (i : ℕ) (s : Slot K) → Holds ss i s → Holds (stored ss) i s.key
  key_read ss i s h = holds_mapped (λ (x : Slot K). x.key) ss i s h

  pub long_serials : (ss : List (Slot K)) → length (serials ss) ≡ length ss
  long_serials ss = length-map ss (λ (s : Slot K). s.serial)

  pub long_stored : (ss : List (Slot K)) → length (stored ss) ≡ length ss
  long_stored ss = length-map ss (λ (s : Slot K). s.key)

  pub trim_serials : (n : ℕ) (ss : List (Slot K)) → serials (map (trimmed n) ss) ≡ map (cut n) (serials ss)
  trim_serials n [] = refl
  trim_serials n (s ∷ ss) = ap (λ r. cut n s.serial ∷ r) (trim_serials n ss)

  pub trim_stored : (n : ℕ) (ss : List (Slot K)) → stored (map (trimmed n) ss) ≡ stored ss
  trim_stored n [] = refl
  trim_stored n (s ∷ ss) = ap (λ r. s.key ∷ r) (trim_stored n ss)

  -- what the pass writes at a slot, as it reads the slot
  pub trim_off : (n : ℕ) (s t : Slot K) → s ≡ t → n < t.serial → ◌≡◌ {A = Slot K} (record { key = t.key; serial = 0 }) (trimmed n s)
  trim_off n s t e l = sym (ap (trimmed n) e ∙ ap (λ m. record { key = t.key; serial = m }) off)
    where
      off : cut n t.serial ≡ 0
      off = rw (lt-leb t.serial n l)

  pub trim_on : (n : ℕ) (s t : Slot K) → s ≡ t → t.serial ≤ n → t ≡ trimmed n s
  trim_on n s t e l = sym (ap (trimmed n) e ∙ ap (λ m. record { key = t.key; serial = m }) (cut_stays n t.serial l))

  -- the slots after a write of the key of slot n, and then of the serial of slot i, which may be the same slot
  abbrev pub twice : List (Slot K) → ℕ → ℕ → K → ℕ → Slot K → Slot K → List (Slot K)
  twice ss n i k m q u =
      let ts = set ss n (record { key = k; serial = (get_or ss n q).serial }) in
      set ts i (record { key = (get_or ts i u).key; serial = m })

  pub twice_serials : (ss : List (Slot K)) (n i : ℕ) (k : K) (m : ℕ) (q u : Slot K) → n < length ss → serials (twice ss n i k m q u) ≡ set (serials ss) i m
  twice_serials ss n i k m q u l =
      let r : Slot K = record { key = k; serial = (get_or ss n q).serial } in
      map_set (λ (x : Slot K). x.serial) (set ss n r) i (record { key = (get_or (set ss n r) i u).key; serial = m })
      ∙ ap (λ x. set x i m) (map_set (λ (x : Slot K). x.serial) ss n r ∙ ap (set (serials ss) n) (sym (serial_read ss n (get_or ss n q) (holds_read ss n q l))) ∙ set-get_or (serials ss) n 0)

  pub twice_stored : (ss : List (Slot K)) (n i : ℕ) (k : K) (m : ℕ) (q u : Slot K) → i < length ss → stored (twice ss n i k m q u) ≡ set (stored ss) n k
  twice_stored ss n i k m q u l =
      let r : Slot K = record { key = k; serial = (get_or ss n q).serial } in
      let ts = set ss n r in
      let l' : i < length ts = subst (λ x. i < x) (sym (length-set ss n r)) l in
      map_set (λ (x : Slot K). x.key) ts i (record { key = (get_or ts i u).key; serial = m })
      ∙ ap (set (stored ts) i) (key_read ts i (get_or ts i u) (holds_read ts i u l')).1
      ∙ set-get_or (stored ts) i (get_or ts i u).key
      ∙ map_set (λ (x : Slot K). x.key) ss n r

  pub sound_as : (same : K → K → Bool) (hash : K → ℕ) (ts : List (Slot K)) (bs : List ℕ) (ks : List K) (c : ℕ) → serials ts ≡ bs → stored ts ≡ ks → Sound same hash bs ks c → Sound same hash (serials ts) (stored ts) c
  sound_as same hash ts bs ks c e f x = subst (λ y. Sound same hash y (stored ts) c) (sym e) (subst (λ y. Sound same hash bs y c) (sym f) x)

  pub nth_at : (ks : List K) (n : ℕ) (k : K) → Holds ks n k → nth ks n ≡ Some k
  nth_at [] n k h = absurd (omega (arith, h.0))
  nth_at (x ∷ xs) zero k h = ap Some (sym h.1)
  nth_at (x ∷ xs) (suc n) k h = nth_at xs n k (omega (arith, h.0), h.1)

  pub nth_past : (ks : List K) (n : ℕ) → length ks ≤ n → nth ks n ≡ None
  nth_past [] n l = refl
  nth_past (x ∷ xs) zero l = absurd (omega arith)
  nth_past (x ∷ xs) (suc n) l = nth_past xs n (omega arith)

  pub wiped_free : (n : ℕ) (k : K) (h : ℕ) → get_or (serials (replicate n (free k))) h 0 ≡ 0
  wiped_free zero k h = refl
  wiped_free (suc n) k zero = refl
  wiped_free (suc n) k (suc h) = wiped_free n k h

-- What a sound table tells of a key, by where the search for it ended.
module _ {K : Type 0} (same : K → K → Bool) (hash : K → ℕ) (ss : List (Slot K)) (n : ℕ) (whole : ∥ Sound same hash (serials ss) (stored ss) n ∥₁) where
  pub sound : Sound same hash (serials ss) (stored ss) n
  sound = opened same hash (serials ss) (stored ss) n whole

  -- how many keys there are
  pub many : length (take n (stored ss)) ≡ n
  many = length_keys same hash (serials ss) (stored ss) n sound

  pub within : n ≤ length ss
  within = omega (arith, sound.fits, long_stored ss)

  pub narrow : length ss < 65536
  narrow = omega (arith, sound.narrow, long_serials ss)

  -- past all buckets: the key is not there, and no slot is free
  pub gone_round : (k : K) → Nowhere same (serials ss) (stored ss) k → (number_of same k (take n (stored ss)) ≡ None) × (length ss ≤ n)
  gone_round k none = (
    number_absent same hash (serials ss) (stored ss) n sound k (nowhere_absent same hash (serials ss) (stored ss) n sound k none),
    omega (arith, full_up same hash (serials ss) (stored ss) n sound (λ p l. (none p l).0), long_serials ss),
  )

  module _ (k : K) (i : ℕ) (stop : Stopped same hash (serials ss) (stored ss) k i) (inside : i < length ss) (d : Slot K) where
    pub bucket_read : get_or (serials ss) i 0 ≡ (get_or ss i d).serial
    bucket_read = serial_read ss i (get_or ss i d) (holds_read ss i d inside)

    -- at a free bucket: the key is not there, and there is a slot for it
    pub at_free : ((x y : K) → same x y ≡ true → hash x ≡ hash y) → (get_or ss i d).serial ≡ 0 → number_of same k (take n (stored ss)) ≡ None
    at_free even e = number_absent same hash (serials ss) (stored ss) n sound k (free_absent same hash (serials ss) (stored ss) n sound even k i stop (bucket_read ∙ e))

    pub room_left : (get_or ss i d).serial ≡ 0 → n < length ss
    room_left e = omega (arith, room same hash (serials ss) (stored ss) n sound i stop.within (bucket_read ∙ e), long_serials ss)

    -- at any other: the bucket leads to it
    pub at_taken : IsPartialEquivalence same → ((get_or ss i d).serial ≡ 0 → ⊥) → number_of same k (take n (stored ss)) ≡ Some ((get_or ss i d).serial - 1)
    at_taken laws ne =
        let taken : 0 < get_or (serials ss) i 0 = let e = bucket_read in omega arith in
        number_there same hash (serials ss) (stored ss) n sound laws k i stop taken ∙ ap (λ m. Some (m - 1)) bucket_read
