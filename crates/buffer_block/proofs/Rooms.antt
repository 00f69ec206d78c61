-- Room is lent in places of one size, and is one room again when the loan has ended. Assumes `Logic`.
use Rattle.std.proofs.Common.{◌≡◌, ℕ, zero, suc, ◌+◌, ◌-◌, ◌*◌, ◌^◌, ◌<◌, [], ◌∷◌, refl, sym, subst, arith}
use seplogic.Ra.Ura.{Ura}
use mir.Syntax.{Ty, w8, ty_int, ty_array}
use base.Logic.{SProp, ent, sep, guard, never_e}
use base.Fml.{Fml, fsep, froom, fdead}
use types.Logic.{Logic, sem}
use types.Kit.{‵, ◌⊛◌, later, ◌$◌, ◌∵◌, !, qed, by, move, drop, use0, use1, use2, split, fsplit, fjoin, flt_l, flt_i, rewrite, check, await, updating, now, done}
use types.Tokens.{bor_new, lent_back}
use denote.RawPtr.{Ptr, block_ptr, null_ptr, InBlock}
use denote.Steps.{nothing}
use Rattle.std_alloc.proofs.VecSteps.El.{El}
use Rattle.std_alloc.proofs.VecSteps.Rows.{room_split, glued}
use Rattle.std_alloc.proofs.OfLodged.{lodging}
use Rattle.bytes.specs.Ownership.{IsPlaced}
use Rattle.bytes.proofs.Lodging.{byte_laws}
use Rattle.buffer_block.specs.Ownership.{room_owns, lent, borrowed}
use denote.Builtin.{u8}

abbrev pub Bytes : ℕ → Ty
Bytes n = ty_array (ty_int w8) n

abbrev pub E8 : El
E8 = lodging u8 byte_laws

module _ {M : Type 1} {𝓤 : Ura M} (𝓛 : Logic 𝓤) where
  open 𝓛 use {H}

  abbrev ⟦◌⟧ : Fml → SProp 𝓤
  ⟦ P ⟧ = sem 𝓛 P

  pub room_cuts : (m n t b o : ℕ) → m + n ≡ t → ent 𝓤 ⟦ froom (Bytes t) b o ⟧ (sep 𝓤 ⟦ froom (Bytes m) b o ⟧ ⟦ froom (Bytes n) b (o + m) ⟧)
  room_cuts m n t b o e =
      qed 𝓛 (‵ (froom (Bytes t) b o) ∷ []) ∵
      use1 𝓛 (‵ (froom (Bytes m) b o) ⊛ ‵ (froom (Bytes (t - m)) b (o + m * 1))) (room_split E8 𝓛 m t b o (omega arith)) $ split ! $
      rewrite ! 1 (λ k. ‵ (froom (Bytes k) b (o + m * 1))) (let is : t - m ≡ n = omega arith in is) refl $
      rewrite ! 1 (λ k. ‵ (froom (Bytes n) b k)) (let is : o + m * 1 ≡ o + m = omega arith in is) refl $ done !

  pub room_glues : (m n t b o : ℕ) → m + n ≡ t → ent 𝓤 (sep 𝓤 ⟦ froom (Bytes m) b o ⟧ ⟦ froom (Bytes n) b (o + m) ⟧) ⟦ froom (Bytes t) b o ⟧
  room_glues m n t b o e =
      qed 𝓛 (‵ (froom (Bytes m) b o) ∷ ‵ (froom (Bytes n) b (o + m)) ∷ []) ∵
      rewrite ! 1 (λ k. ‵ (froom (Bytes n) b k)) (let is : o + m ≡ o + m * 1 = omega arith in is) refl $
      by ! (glued E8 𝓛 m n t b o e)

  -- room is not at null, and it is small
  pub room_tells : (p : Ptr) (n : ℕ) → ent 𝓤 ⟦ room_owns p n ⟧ (guard 𝓤 (IsPlaced p × (n < 2 ^ 63)) ⟦ room_owns p n ⟧)
  room_tells null_ptr n = qed 𝓛 (‵ (room_owns null_ptr n) ∷ []) ∵ fsplit ! $ drop ! $ by ! (never_e 𝓤 _)
  room_tells (block_ptr b o) n =
      qed 𝓛 (‵ (room_owns (block_ptr b o) n) ∷ []) ∵ fsplit ! $ flt_l ! (λ small. flt_i ! n (2 ^ 63) small $ fjoin ! $ check ! (refl, small) $ done !)

  module _ (a r : ℕ) where
    abbrev pub Loan : ℕ → Ptr → Fml
    Loan n p = fsep (borrowed a r n p) (lent a r n p)

    pub lend : (n : ℕ) (p : Ptr) → ent 𝓤 ⟦ room_owns p (n * r) ⟧ (H.⇛ ⟦ Loan n p ⟧)
    lend n null_ptr = qed 𝓛 (‵ (room_owns null_ptr (n * r)) ∷ []) ∵ fsplit ! $ drop ! $ by ! (never_e 𝓤 _)
    lend zero (block_ptr b o) = qed 𝓛 (‵ (room_owns (block_ptr b o) (zero * r)) ∷ []) ∵ updating ! $ drop ! $ now ! $ nothing ! $ nothing ! $ fjoin ! $ done !
    lend (suc n) (block_ptr b o) =
        let p = block_ptr b o in
        let q = block_ptr b (o + r) in
        let whole : r + n * r ≡ suc n * r = omega arith in
        qed 𝓛 (‵ (room_owns p (suc n * r)) ∷ []) ∵ updating ! $ fsplit ! $ flt_l ! (λ small.
        use1 𝓛 (‵ (froom (Bytes r) b o) ⊛ ‵ (froom (Bytes (n * r)) b (o + r))) (room_cuts r (n * r) (suc n * r) b o whole) $ split ! $
        flt_i ! r (2 ^ 63) (omega arith) $ fjoin ! $ bor_new ! tt (a ∷ []) $
        move ! (2 ∷ []) $ flt_i ! (n * r) (2 ^ 63) (omega arith) $ fjoin ! $
        use1 𝓛 (later (‵ (Loan n q))) (lend n q) $ await ! tt $ fsplit ! $
        -- [the borrows; the rights to the places; the first borrow; the right to its place]
        move ! (3 ∷ 1 ∷ []) $ fjoin ! $ move ! (2 ∷ 1 ∷ []) $ fjoin ! $ fjoin ! $ now ! $ done !)

    room_back : (n b o : ℕ) → ent 𝓤 (sep 𝓤 ⟦ fdead (a ∷ []) ⟧ ⟦ lent a r n (block_ptr b o) ⟧) (H.⇛ ⟦ froom (Bytes (n * r)) b o ⟧)
    room_back zero b o = qed 𝓛 (‵ (fdead (a ∷ [])) ∷ ‵ (lent a r zero (block_ptr b o)) ∷ []) ∵ updating ! $ now ! $ drop ! $ drop ! $ use0 𝓛 (‵ (froom (Bytes 0) b o)) (𝓛.laws.room_nil (ty_int w8) b o) $
        rewrite ! 0 (λ k. ‵ (froom (Bytes k) b o)) (let is : 0 ≡ 0 * r = omega arith in is) refl $ done !
    room_back (suc n) b o =
        let whole : r + n * r ≡ suc n * r = omega arith in
        qed 𝓛 (‵ (fdead (a ∷ [])) ∷ ‵ (lent a r (suc n) (block_ptr b o)) ∷ []) ∵ updating ! $
        use1 𝓛 (‵ (fdead (a ∷ [])) ⊛ ‵ (fdead (a ∷ []))) (𝓛.lfts.dead_dup (a ∷ [])) $ split ! $ move ! (2 ∷ []) $ fsplit ! $ move ! (2 ∷ 0 ∷ []) $ lent_back ! tt $
        fsplit ! $ drop ! $ move ! (2 ∷ 1 ∷ []) $
        use2 𝓛 (later (‵ (froom (Bytes (n * r)) b (o + r)))) (room_back n b (o + r)) $ await ! tt $ move ! (1 ∷ 0 ∷ []) $
        use2 𝓛 (‵ (froom (Bytes (suc n * r)) b o)) (room_glues r (n * r) (suc n * r) b o whole) $ now ! $ done !

    -- once a has ended, the room is back
    pub regain : (n : ℕ) (p : Ptr) → IsPlaced p → n * r < 2 ^ 63 → ent 𝓤 (sep 𝓤 ⟦ fdead (a ∷ []) ⟧ ⟦ lent a r n p ⟧) (H.⇛ ⟦ room_owns p (n * r) ⟧)
    regain n null_ptr placed small = absurd (subst InBlock (sym placed) tt)
    regain n (block_ptr b o) placed small =
        qed 𝓛 (‵ (fdead (a ∷ [])) ∷ ‵ (lent a r n (block_ptr b o)) ∷ []) ∵ updating ! $
        use2 𝓛 (later (‵ (froom (Bytes (n * r)) b o))) (room_back n b o) $ await ! tt $ flt_i ! (n * r) (2 ^ 63) small $ fjoin ! $ now ! $ done !
