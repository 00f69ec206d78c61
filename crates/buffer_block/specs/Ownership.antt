-- What the parts of a block own that is lent in places of one size. The places are borrowed for a lifetime `a`, each by itself.
use Rattle.std.specs.Prelude.{ℕ, zero, suc, ◌^◌, [], ◌∷◌}
use base.Fraction.{full_share}
use base.Fml.{Share, Fml, ftrue, fsep, fex, fwand, flt, flft, fbor, fobor, flent}
use mir.Syntax.{w8, ty_int, ty_array}
use denote.RawPtr.{Ptr, room_for, ◌+ₚ◌}
use Rattle.bytes.specs.Ownership.{Extent}

-- room for n bytes at p
abbrev pub room_owns : Ptr → ℕ → Fml
room_owns p n = fsep (flt n (2 ^ 63)) (room_for (ty_array (ty_int w8) n) p)

module _ (a room : ℕ) where
  -- the right to each of n places from p on, once a has ended
  abbrev pub lent : ℕ → Ptr → Fml
  lent zero p = ftrue
  lent (suc n) p = fsep (flent (a ∷ []) (room_owns p room)) (lent n (p +ₚ room))

  -- the borrows of n places from p on
  abbrev pub borrowed : ℕ → Ptr → Fml
  borrowed zero p = ftrue
  borrowed (suc n) p = fsep (fbor (a ∷ []) (room_owns p room)) (borrowed n (p +ₚ room))

  -- what a block owns: the token of a, and its places once a has ended
  abbrev pub block_owns : ℕ → Ptr → Fml
  block_owns n p = fsep (flft (a ∷ []) full_share) (lent n p)

module _ (e : Extent) (X : Type 0) (life : X → ℕ) (own : X → Fml) where
  -- s.0 is a lifetime for which the owner is lent, s.1 the share of its token that is out for a share s.2 of the block's token, and that one is out for the place
  abbrev pub tethered : X → ℕ × Share × Share → Fml
  tethered x s = fsep (fwand (flft (s.0 ∷ []) s.1) (own x)) (fsep (fobor (s.0 ∷ []) s.1 (flft (life x ∷ []) s.2)) (fobor (life x ∷ []) s.2 (room_owns e.ptr e.len)))

  -- what an owner of the block has while its place is out
  abbrev pub tether_owns : Fml
  tether_owns = fex X (λ x. fex (ℕ × Share × Share) (tethered x))
