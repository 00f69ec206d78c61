-- Room as an empty `Vec` that neither grows nor frees it, and such a `Vec` as room. Assumes `Logic`.
use Rattle.std.proofs.Common.{◌≡◌, ℕ, zero, suc, ◌+◌, ◌-◌, ◌*◌, ◌^◌, ◌<◌, ◌≤◌, List, [], ◌∷◌, length, take, Bool, true, false, refl, sym, ap, ◌∙◌, arith, Vec}
use seplogic.Ra.Ura.{Ura}
use mir.Syntax.{w8, w64, ty_int}
use mir.Val.{Val, vint, vptr}
use base.Fraction.{full_share}
use base.Logic.{SProp, ent, ex, guard, emp, never, id⊢}
use base.Fml.{Fml, ftrue, fsep, flft, froom}
use prog.Memory.{Memory}
use prog.Routine.{Routine}
use contract.Monad.{Fun, fact, fact_i}
use contract.BorrowLft.{◌⊑◌, ⊑_refl}
use types.Logic.{Logic, sem}
use types.Kit.{‵, raw, ◌⊛◌, some, later, ◌$◌, ◌∵◌, !, qed, by, move, keep, use0, use1, use2, drop, split, split3, join, pick, fsplit, fsplit3, fjoin, feq_l, feq_i, flt_l, flt_i, rewrite, check, show, await, updating, now, done}
use denote.Exit.{no, left}
use denote.Builtin.{u8, usize}
use denote.Param.{param}
use denote.RawPtr.{Ptr, block_ptr, in_block, in_a_block}
use denote.Steps.{only, nothing, heard}
use Rattle.std.specs.Allocator.{block_with_items}
use Rattle.std_alloc.specs.Vec.Ownership.{lodged, owns_if, has_block}
use Rattle.std_alloc.specs.declared.vec.lodged.Lodged.{Lodged}
use Rattle.std_alloc.specs.contracts.vec.Vec as V
use Rattle.std_alloc.specs.contracts.vec.lodged.Lodged as L
use Rattle.std_alloc.specs.contracts.vec.lodged.LodgedAllocator.TheImpl.{ghosts}
use Rattle.std_alloc.proofs.VecSteps.Opens.{is_live}
use Rattle.std.specs.Mem.Slots.Ownership.{Filled}
use Rattle.std_alloc.proofs.VecSteps.Rows.{all_room}
use Rattle.std_alloc.proofs.vec.Blocks.{all, vec_in}
use Rattle.bytes.proofs.Lodging.{Housed, Lodges, Dislodges, at_dislodge}
use Rattle.buffer_block.specs.Ownership.{room_owns}
use Rattle.buffer_block.proofs.Rooms.{Bytes, E8}

-- what a `Vec` of n of c bytes has there
abbrev pub Behind : Ptr → ℕ → ℕ → List ℕ → Fml
Behind p n c xs = owns_if (has_block c) (block_with_items (λ _ _. ftrue) u8 p n c xs)

module _ {M : Type 1} {𝓤 : Ura M} (𝓛 : Logic 𝓤) where
  if_so : (y : Bool) (P : Fml) → ent 𝓤 (sem 𝓛 P) (sem 𝓛 (owns_if y P))
  if_so true P = id⊢ 𝓤 (sem 𝓛 P)
  if_so false P = qed 𝓛 (‵ P ∷ []) ∵ drop ! $ nothing ! $ done !

  abbrev ⟦◌⟧ : Fml → SProp 𝓤
  ⟦ P ⟧ = sem 𝓛 P

  -- the first n of c places, as they lie behind a `Vec`
  pub housed : (b o n c : ℕ) (xs : List ℕ) (fs : List Bool) → length xs ≡ c → length fs ≡ c → n ≤ c → Filled fs 0 n → ent 𝓤 ⟦ all E8 b o xs fs ⟧ ⟦ Behind (block_ptr b o) n c (take n xs) ⟧
  housed b o n c xs fs lx lf fits filled =
      let room : c - c ≡ 0 = omega arith in
      let rest = fsep (froom (Bytes (c - c)) b (o + c * 1)) ftrue in
      qed 𝓛 (‵ (all E8 b o xs fs) ∷ []) ∵ nothing ! $ use0 𝓛 (‵ (froom (Bytes 0) b (o + c * 1))) (𝓛.laws.room_nil (ty_int w8) b (o + c * 1)) $
      rewrite ! 0 (λ k. ‵ (froom (Bytes k) b (o + c * 1))) (sym room) refl $ fjoin ! $
      use1 𝓛 (‵ (owns_if (has_block c) rest)) (if_so (has_block c) rest) $ move ! (1 ∷ 0 ∷ []) $
      by ! (vec_in E8 𝓛 b (record {}) o (has_block c) n c c xs fs lx lf fits (omega arith) filled)

  vacated : (b o n c : ℕ) (xs : List ℕ) → n ≤ c → ent 𝓤 ⟦ Behind (block_ptr b o) n c xs ⟧ ⟦ froom (Bytes c) b o ⟧
  vacated b o n zero xs fits = qed 𝓛 (‵ (Behind (block_ptr b o) n 0 xs) ∷ []) ∵ drop ! $ use0 𝓛 (‵ (froom (Bytes 0) b o)) (𝓛.laws.room_nil (ty_int w8) b o) $ done !
  vacated b o n (suc c) xs fits =
      let p = block_ptr b o in
      let live : has_block (suc c) ≡ true = is_live (suc c) (omega arith) in
      qed 𝓛 (‵ (Behind p n (suc c) xs) ∷ []) ∵ rewrite ! 0 (λ y. ‵ (owns_if y (block_with_items (λ _ _. ftrue) u8 p n (suc c) xs))) live refl $
      fsplit3 ! $ use2 𝓛 (‵ (froom (Bytes (suc c)) b o)) (all_room E8 𝓛 b o n (suc c) xs fits) $ keep ! (0 ∷ []) $ done !

module _ {M : Type 1} {𝓤 : Ura M} (𝓛 : Logic 𝓤) (at_mem : Memory → SProp 𝓤) (run : Routine → Fun 𝓤) where
  open 𝓛 use {H}

  module _ (b o n c : ℕ) (xs : List ℕ) where
    abbrev pub at_lodge : (Lodges 𝓛 at_mem run).Ghost
    at_lodge = ((([], tt), (full_share, tt), tt, (block_ptr b o, (n, (c, tt))), (vptr b o ∷ [], (vint w64 n ∷ [], (vint w64 c ∷ [], tt)))), xs)

    abbrev pub IsHoused : Vec ℕ Lodged → Type 0
    IsHoused r = (r.items ≡ xs) × (r.len ≡ n) × (r.cap ≡ c) × (r.ptr ≡ block_ptr b o)

    pub lodge_goes : n ≡ length xs → n ≤ c → c < 2 ^ 63 → ent 𝓤 (sem 𝓛 (Behind (block_ptr b o) n c xs)) ((Lodges 𝓛 at_mem run).pre at_lodge)
    lodge_goes long fits small =
        let p = block_ptr b o in
        let Asked : Type 0 = (n ≡ length xs) × (n ≤ c) × (c < 2 ^ 63) in
        qed 𝓛 (‵ (Behind p n c xs) ∷ []) ∵ flt_i ! (c * 1) (2 ^ 63) (omega arith) $ fjoin ! $
        use0 𝓛 (raw (fact 𝓤 Asked)) (fact_i 𝓤 Asked (emp 𝓤) (long, fits, small)) $ join ! $
        use0 𝓛 (raw (fact 𝓤 ([] ⊑ []))) (fact_i 𝓤 ([] ⊑ []) (emp 𝓤) (⊑_refl [])) $ join ! $
        nothing ! $ flt_i ! c (2 ^ 64) (omega arith) $ feq_i ! (List Val) (vint w64 c ∷ []) (vint w64 c ∷ []) refl $ fjoin ! $ fjoin ! $
        flt_i ! n (2 ^ 64) (omega arith) $ feq_i ! (List Val) (vint w64 n ∷ []) (vint w64 n ∷ []) refl $ fjoin ! $ fjoin ! $
        feq_i ! (List Val) (vptr b o ∷ []) (vptr b o ∷ []) refl $ fjoin ! $ nothing ! $ use0 𝓛 (‵ (flft [] full_share)) (𝓛.lfts.lft-nil full_share) $ join ! $ join ! $ done !

    pub lodge_gives : (v : Val) → ent 𝓤 ((Lodges 𝓛 at_mem run).post at_lodge v) (H.⇛ (ex 𝓤 (λ (r : Vec ℕ Lodged). guard 𝓤 (IsHoused r) (sem 𝓛 (Housed.own_val r (v ∷ []))))))
    lodge_gives v =
        qed 𝓛 (raw ((Lodges 𝓛 at_mem run).post at_lodge v) ∷ []) ∵ updating ! $
        use1 𝓛 (later (some (λ (r : Vec ℕ Lodged). ((‵ (flft [] full_share) ⊛ ‵ ftrue) ⊛ ‵ (Housed.own_val r (v ∷ [])))
        ⊛ some (λ (ws : Unit {0} × (Unit {0} × (Unit {0} × Unit {0}))). ‵ (fsep ftrue (fsep ftrue (fsep ftrue ftrue))) ⊛ raw (fact 𝓤 (IsHoused r)))))) (id⊢ 𝓤 _) $ await ! tt $ pick ! (λ r.
        split ! $ move ! (1 ∷ []) $ pick ! (λ ws. split ! $ drop ! $ heard ! (IsHoused r) (λ is. split ! $ drop ! $ now ! $
        show ! (λ (z : Vec ℕ Lodged). guard 𝓤 (IsHoused z) (sem 𝓛 (Housed.own_val z (v ∷ [])))) r $ check ! is $ done !)))

  pub dislodge_gives : (d : Vec ℕ Lodged) (u v : Val) → ent 𝓤 ((Dislodges 𝓛 at_mem run).post (at_dislodge 𝓛 at_mem run d u) v) (H.⇛ (guard 𝓤 ((v ≡ vint w64 d.len) × (d.len < 2 ^ 64)) (sem 𝓛 (room_owns d.ptr d.cap))))
  dislodge_gives d u v =
      qed 𝓛 (raw ((Dislodges 𝓛 at_mem run).post (at_dislodge 𝓛 at_mem run d u) v) ∷ []) ∵ updating ! $
      use1 𝓛 (later (some (λ (r : ℕ). ((‵ (flft [] full_share) ⊛ ‵ ftrue) ⊛ ‵ (usize.own_val r (v ∷ [])))
      ⊛ some (λ (ws : Unit {0} × Unit {0}). ‵ (fsep (left ((V.the_row (param 0 u8) L.the_row ghosts).exit no) d ws.0) ftrue) ⊛ raw (fact 𝓤 (r ≡ d.len)) ⊛ ‵ (lodged u8 d.ptr d.len d.cap d.items))))) (id⊢ 𝓤 _) $ await ! tt $ pick ! (λ r.
      split ! $ move ! (1 ∷ []) $ pick ! (λ ws. split3 ! $ drop ! $ heard ! (r ≡ d.len) (λ is. move ! (1 ∷ []) $ split ! $ drop ! $ fsplit ! $ feq_l ! (λ e. flt_l ! (λ f. now ! $
      check ! (ap only e ∙ ap (vint w64) is, omega arith) $ fsplit ! $ flt_l ! (λ fit.
      in_a_block ! d.ptr (λ p. in_block p (Behind p d.len d.cap d.items)) (id⊢ 𝓤 (never 𝓤)) (λ b o at.
      use1 𝓛 (‵ (froom (Bytes d.cap) b o)) (vacated 𝓛 b o d.len d.cap d.items d.ok.1) $ flt_i ! d.cap (2 ^ 63) (omega arith) $ fjoin ! $
      rewrite ! 0 (λ p. ‵ (room_owns p d.cap)) (sym at) refl $ done !)))))))
