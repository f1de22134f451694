-- Keys in a row, as they lie in a block or a table, and the place of a key among them. Assumes nothing.
use Rattle.std.specs.Prelude.{◌≡◌, ℕ, suc, ◌+◌, ◌-◌, ◌*◌, ◌/◌, ◌<◌, ◌≤◌, ◌↔◌, Bool, true, false, List, [], length, take, drop, ◌≢◌, Result, Ok, Err, IsOk, OnErr, slice_index_or}
use Rattle.std.specs.declared.cmp.Ordering.TheVariants.{Less, Equal, Greater}
use Rattle.std.specs.Ordering.{is_lt, is_le}
use Rattle.kinds.specs.declared.search.Entry.{Entry}
use Rattle.kinds.specs.Laws.{Kind, Key}

-- the key of record i, where records take `size` bytes each
abbrev pub key_at : Kind → ℕ → List ℕ → ℕ → List ℕ
key_at kind size bytes i = take kind.key_length (drop (i * size) bytes)

-- the same in a block, where each record has two bytes more behind it
abbrev pub key_in : Kind → List ℕ → ℕ → List ℕ
key_in kind block = key_at kind (kind.record_length + 2) block

-- how many whole records a block has
abbrev pub held_in : Kind → List ℕ → ℕ
held_in kind block = length block / (kind.record_length + 2)

-- what stands past the end of a table
abbrev pub no_entry : Entry
no_entry = record { count = 0; first = 0; bound = [] }

-- the key bound of entry i: of the bytes that are kept for it, as many as a key has
abbrev pub bound_at : Kind → List Entry → ℕ → List ℕ
bound_at kind entries i = take kind.key_length (slice_index_or entries i no_entry).bound

-- the first n are keys
abbrev pub Keyed : Kind → (ℕ → List ℕ) → ℕ → Type 0
Keyed kind key n = (i : ℕ) → i < n → Key kind (key i)

-- each of the first n is below those behind it
abbrev pub Ascends : Kind → (ℕ → List ℕ) → ℕ → Type 0
Ascends kind key n = (i j : ℕ) → i < j → j < n → kind.order (key i) (key j) ≡ Less

-- the keys of a block ascend
abbrev pub KeysAscend : Kind → List ℕ → Type 0
KeysAscend kind block = Ascends kind (key_in kind block) (held_in kind block)

-- the bounds of a table are keys, and ascend
pub record BoundsAscend (kind : Kind) (entries : List Entry) : Type 0 where
  pub keyed : Keyed kind (bound_at kind entries) (length entries)
  pub ascend : Ascends kind (bound_at kind entries) (length entries)

-- of n places, the test is true at the one before t, and false at t
pub record Turn (test : ℕ → Bool) (n t : ℕ) : Type 0 where
  pub within : t ≤ n
  pub before : (i : ℕ) → suc i ≡ t → test i ≡ true
  pub behind : t < n → test t ≡ false

-- two tests of any row of keys, and the same of a block and of a table
abbrev pub key_below : Kind → (ℕ → List ℕ) → List ℕ → ℕ → Bool
key_below kind key k i = is_lt (kind.order (key i) k)

abbrev pub key_not_above : Kind → (ℕ → List ℕ) → List ℕ → ℕ → Bool
key_not_above kind key k i = is_le (kind.order (key i) k)

abbrev pub below : Kind → List ℕ → List ℕ → ℕ → Bool
below kind block = key_below kind (key_in kind block)

abbrev pub not_above : Kind → List Entry → List ℕ → ℕ → Bool
not_above kind entries = key_not_above kind (bound_at kind entries)

-- r is the place of the first of n keys that is not below k, or n
pub record FirstKeyNotBelow (kind : Kind) (key : ℕ → List ℕ) (n : ℕ) (k : List ℕ) (r : ℕ) : Type 0 where
  pub within : r ≤ n
  pub before : (i : ℕ) → i < r → kind.order (key i) k ≡ Less
  pub behind : (i : ℕ) → r ≤ i → i < n → kind.order (key i) k ≢ Less

-- the same of the records of a block
abbrev pub FirstNotBelow : Kind → List ℕ → List ℕ → ℕ → Type 0
FirstNotBelow kind block = FirstKeyNotBelow kind (key_in kind block) (held_in kind block)

-- r is the place of the last of n keys that is not above k, or else the first place
pub record LastKeyNotAbove (kind : Kind) (key : ℕ → List ℕ) (n : ℕ) (k : List ℕ) (r : ℕ) : Type 0 where
  pub within : r ≤ n - 1
  pub upto : (i : ℕ) → 0 < r → i ≤ r → kind.order (key i) k ≢ Greater
  pub behind : (i : ℕ) → r < i → i < n → kind.order (key i) k ≡ Greater

-- the same of the bounds of a table
abbrev pub LastNotAbove : Kind → List Entry → List ℕ → ℕ → Type 0
LastNotAbove kind entries = LastKeyNotAbove kind (bound_at kind entries) (length entries)

-- the place that an answer names
abbrev pub place_of : Result ℕ ℕ → ℕ
place_of (Ok at) = at
place_of (Err at) = at

-- what a search of a block for k answers, whatever the keys are
pub record Looked (kind : Kind) (block k : List ℕ) (r : Result ℕ ℕ) : Type 0 where
  pub turn : Turn (below kind block k) (held_in kind block) (place_of r)
  pub same : IsOk r ↔ ((place_of r < held_in kind block) × (kind.order (key_in kind block (place_of r)) k ≡ Equal))

-- what it answers where the keys ascend, and k is a key
pub record Found (kind : Kind) (block k : List ℕ) (r : Result ℕ ℕ) : Type 0 where
  pub first : FirstNotBelow kind block k (place_of r)
  pub here : IsOk r ↔ ((place_of r < held_in kind block) × (key_in kind block (place_of r) ≡ k))
  pub nowhere : OnErr r ((i : ℕ) → i < held_in kind block → key_in kind block i ≢ k)
