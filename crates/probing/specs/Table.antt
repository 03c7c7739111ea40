-- What a table's slots mean: a list of keys, and beside it a list of serials, which are the buckets.
use Rattle.std.specs.Prelude.{◌≡◌, ℕ, zero, suc, ◌+◌, ◌-◌, ◌%◌, ◌<◌, ◌≤◌, Bool, true, false, cond, List, [], ◌∷◌, ◌++◌, map, length, take, replicate, Some, None, Option, ◌==◌, nat_le, nat_lt, slice_index, slice_index_or}
use Rattle.probing.specs.declared.Slot.{Slot}

-- x stands at place i of xs
abbrev pub Holds : {X : Type 0} → List X → ℕ → X → Type 0
Holds xs i x = (i < length xs) × (x ≡ slice_index_or xs i x)

-- what the slots keep as their keys, slot by slot
abbrev pub stored : {K : Type 0} → List (Slot K) → List K
stored {K} ss = map (λ (s : Slot K). s.key) ss

-- what the slots keep as their serials, slot by slot: the buckets
abbrev pub serials : {K : Type 0} → List (Slot K) → List ℕ
serials {K} ss = map (λ (s : Slot K). s.serial) ss

-- a slot with nothing in it
abbrev pub free : {K : Type 0} → K → Slot K
free blank = record { key = blank; serial = 0 }

-- as many slots, with nothing in them
abbrev pub wiped : {K : Type 0} → K → List (Slot K) → List (Slot K)
wiped blank ss = replicate (length ss) (free blank)

-- the place of the first bucket with serial m
abbrev pub spot : List ℕ → ℕ → ℕ
spot [] m = 0
spot (x ∷ xs) m = cond (x == m) 0 (suc (spot xs m))

-- how many steps lead from bucket h on to bucket p, round a ring of n buckets
abbrev pub gap : ℕ → ℕ → ℕ → ℕ
gap n h p = cond (nat_le h p) (p - h) (p + n - h)

-- where the search for a key with this hash starts, in n buckets
abbrev pub home : ℕ → ℕ → ℕ
home n hash = hash % n

-- the number of the first key of ks that is the same as k, where the first of ks has number n
abbrev pub number_from : {K : Type 0} → (K → K → Bool) → K → ℕ → List K → Option ℕ
number_from same k n [] = None
number_from same k n (x ∷ xs) = cond (same x k) (Some n) (number_from same k (n + 1) xs)

-- the number of the first key of ks that is the same as k: its place in the list, if there is one
abbrev pub number_of : {K : Type 0} → (K → K → Bool) → K → List K → Option ℕ
number_of same k ks = number_from same k 0 ks

-- No two keys of ks are the same.
abbrev pub Distinct : {K : Type 0} → (K → K → Bool) → List K → Type 0
Distinct {K} same ks = (n m : ℕ) (k l : K) → Holds ks n k → Holds ks m l → same k l ≡ true → n ≡ m

-- The serials bs and the keys ks are those of a table with `count` keys.
pub record Sound {K : Type 0} (same : K → K → Bool) (hash : K → ℕ) (bs : List ℕ) (ks : List K) (count : ℕ) : Type 0 where
  -- there are as many buckets as places for keys
  pub level : length bs ≡ length ks
  -- a serial fits its sixteen bits
  pub narrow : length bs < 65536
  -- every key has its place
  pub fits : count ≤ length ks
  -- every number below the count has its bucket
  pub full : (n : ℕ) → n < count → slice_index bs (spot bs (n + 1)) ≡ n + 1
  -- no other number has one
  pub counted : (h : ℕ) → slice_index bs h ≤ count
  -- and none has two
  pub single : (i j : ℕ) → 0 < slice_index bs i → slice_index bs i ≡ slice_index bs j → i ≡ j
  -- no two keys are the same
  pub apart : Distinct same (take count ks)
  -- every bucket from a key's home on to its bucket leads to an older key
  pub aged : (i p : ℕ) (k : K) → 0 < slice_index bs i → Holds ks (slice_index bs i - 1) k → p < length bs → gap (length bs) (home (length bs) (hash k)) p < gap (length bs) (home (length bs) (hash k)) i → (0 < slice_index bs p) × (slice_index bs p < slice_index bs i)

-- The invariant, in a form that a ghost field can state: in ∥ ∥₁, since antt does not find by itself that `Sound` has one
-- proof at most. `opened` of proofs/Tables.antt takes it out again.
abbrev pub Whole : {K : Type 0} → (K → K → Bool) → (K → ℕ) → List (Slot K) → ℕ → Type 0
Whole same hash ss count = ∥ Sound same hash (serials ss) (stored ss) count ∥₁

-- Bucket p leads to a key that is another than k.
abbrev pub Other : {K : Type 0} → (K → K → Bool) → List ℕ → List K → K → ℕ → Type 0
Other {K} same bs ks k p = (0 < slice_index bs p) × ((l : K) → Holds ks (slice_index bs p - 1) l → same l k ≡ false)

-- A search for k stopped at bucket i.
pub record Stopped {K : Type 0} (same : K → K → Bool) (hash : K → ℕ) (bs : List ℕ) (ks : List K) (k : K) (i : ℕ) : Type 0 where
  -- i is a bucket
  pub within : i < length bs
  -- the buckets from k's home on to it lead to other keys
  pub passed : (p : ℕ) → p < length bs → gap (length bs) (home (length bs) (hash k)) p < gap (length bs) (home (length bs) (hash k)) i → Other same bs ks k p
  -- it leads to k, if it is not free
  pub there : (l : K) → 0 < slice_index bs i → Holds ks (slice_index bs i - 1) l → same l k ≡ true

-- A search for k went past all buckets: each leads to another key.
abbrev pub Nowhere : {K : Type 0} → (K → K → Bool) → List ℕ → List K → K → Type 0
Nowhere same bs ks k = (p : ℕ) → p < length bs → Other same bs ks k p

-- How a search for k ended: at a bucket, or past all of them.
abbrev pub Sought : {K : Type 0} → (K → K → Bool) → (K → ℕ) → List ℕ → List K → K → Option ℕ → Type 0
Sought same hash bs ks k (Some i) = Stopped same hash bs ks k i
Sought same hash bs ks k None = Nowhere same bs ks k

-- What a search found, if anything, is one of w buckets.
abbrev pub Near : ℕ → Option ℕ → Type 0
Near w (Some i) = i < w
Near w None = Unit {0}

-- a serial once the numbers from n on are given up: 0, if it led to one of them
abbrev pub cut : ℕ → ℕ → ℕ
cut n m = cond (nat_le m n) m 0

-- a slot once the numbers from n on are given up: its key stays
abbrev pub trimmed : {K : Type 0} → ℕ → Slot K → Slot K
trimmed n s = record { key = s.key; serial = cut n s.serial }

-- what an insertion answers where there are n slots and ks are the keys, by the number that the key has already: a known key
-- has its number, and a new one gets the next where a slot is free, and is refused elsewhere
abbrev pub answered : {K : Type 0} → ℕ → List K → Option ℕ → Option ℕ
answered n ks (Some i) = Some i
answered n ks None = cond (nat_lt (length ks) n) (Some (length ks)) None

-- what the keys are after it: a new key comes last where a slot is free
abbrev pub extended : {K : Type 0} → ℕ → List K → K → Option ℕ → List K
extended n ks k (Some i) = ks
extended n ks k None = cond (nat_lt (length ks) n) (ks ++ k ∷ []) ks

-- what the insertion of k among the keys ks of n slots answers
abbrev pub numbered : {K : Type 0} → (K → K → Bool) → K → ℕ → List K → Option ℕ
numbered same k n ks = answered n ks (number_of same k ks)

-- what the keys are after the insertion of k among the keys ks of n slots
abbrev pub grown : {K : Type 0} → (K → K → Bool) → K → ℕ → List K → List K
grown same k n ks = extended n ks k (number_of same k ks)

-- the key of number n, if there is one
abbrev pub nth : {K : Type 0} → List K → ℕ → Option K
nth [] n = None
nth (k ∷ ks) zero = Some k
nth (k ∷ ks) (suc n) = nth ks n
