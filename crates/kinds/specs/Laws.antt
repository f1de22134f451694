-- What a record kind is, and what it owes: sizes in range, and an order of its keys that keeps three laws. Assumes nothing.
use Rattle.std.specs.Prelude.{◌≡◌, ℕ, ◌<◌, ◌≤◌, ◌↔◌, List, length, All}
use Rattle.std.specs.declared.cmp.Ordering.TheVariants.{Less, Equal}
use Rattle.std.specs.declared.cmp.Ordering.{Ordering}
use Rattle.std.specs.Ordering.{ordering_reverse}

-- whether the first of two keys is below, the same or above
abbrev pub Order : Type 0
Order = List ℕ → List ℕ → Ordering

-- the number by which a file names a kind, the bytes of a record and of the key that it begins with, and the order of its keys
pub record Kind : Type 0 where
  pub number : ℕ
  pub record_length : ℕ
  pub key_length : ℕ
  pub order : Order

-- a key of the kind's length
abbrev pub Key : Kind → List ℕ → Type 0
Key kind k = (length k ≡ kind.key_length) × All (λ x. x < 256) k

-- the sizes of records, and of the keys that they begin with
pub record Sizes (kind : Kind) : Type 0 where
  pub some : 1 ≤ kind.key_length
  pub small : kind.key_length ≤ 16
  pub inside : kind.key_length ≤ kind.record_length
  pub most : kind.record_length ≤ 254

-- the three laws, owed of keys and of no other lists
pub record Laws (kind : Kind) : Type 0 where
  pub same : (a b : List ℕ) → Key kind a → Key kind b → (kind.order a b ≡ Equal) ↔ (a ≡ b)
  pub flip : (a b : List ℕ) → Key kind a → Key kind b → kind.order b a ≡ ordering_reverse (kind.order a b)
  pub trans : (a b c : List ℕ) → Key kind a → Key kind b → Key kind c → kind.order a b ≡ Less → kind.order b c ≡ Less → kind.order a c ≡ Less
