-- The definitions at work: one stream among others.
use Rattle.std.proofs.Common.{◌≡◌, ℕ, ◌==◌, cond, List, [], ◌∷◌, refl, ap, ◌∙◌}
use Rattle.difi_data.specs.Data.{DataPacket}
use Rattle.difi_packet.specs.Packet.{DataValue}
use Rattle.replay_form.specs.FrameFields.{Frame}
use Rattle.sample_binder.specs.Parts.{payload_of}
use Rattle.sample_binder.specs.declared.out.Out.TheVariants as out
use Rattle.sample_binder.specs.declared.out.Run.{Run}
use Rattle.difi_gateway.specs.Contents.{Content, NoPacket, Larger, Holds, Received}
use Rattle.difi_gateway.specs.Told.{RunItem, VersionItem, runs_told}
use Rattle.difi_gateway.specs.Isolation.{runs_of_stream, only}

abbrev holding : Frame → Content → Received
holding frame content = record { frame = frame; content = content }

-- of packets of the streams 1, 2 and 1 again, a datagram that is no packet and one that is too large, two are of stream 1
two_of_five : (frame : Frame) (one two : DataPacket) → one.prologue.stream ≡ 1 → two.prologue.stream ≡ 2
    → only 1 (
    holding frame (Holds (DataValue one))
    ∷ holding frame (NoPacket 3) ∷ holding frame (Holds (DataValue two)) ∷ holding frame (Larger 9000) ∷ holding frame (Holds (DataValue one)) ∷ []
    )
    ≡ holding frame (Holds (DataValue one)) ∷ holding frame (Holds (DataValue one)) ∷ []
two_of_five frame one two e f =
    let mine = holding frame (Holds (DataValue one)) in
    let other = holding frame (Holds (DataValue two)) in
    let kept : ℕ → ℕ → List Received = λ a b. cond (a == 1) (mine ∷ cond (b == 1) (other ∷ cond (a == 1) (mine ∷ []) []) (cond (a == 1) (mine ∷ []) [])) (cond (b == 1) (other ∷ cond (a == 1) (mine ∷ []) []) (cond (a == 1) (mine ∷ []) [])) in
    ap (λ a. kept a two.prologue.stream) e ∙ ap (λ b. kept 1 b) f

-- two packets leave, in two runs and in one: the first run of each tells the number lost before it
lost_is_told_once : (first second third : Run) (room : ℕ) (bytes others : List ℕ)
    → runs_told 7 (
    out.Packet (record { room = room; bytes = bytes }) 3
    ∷ out.Run first ∷ out.Run second ∷ out.Packet (record { room = room; bytes = others }) 1 ∷ out.Run third ∷ []
    )
    ≡ RunItem 7 3 first (payload_of bytes) ∷ RunItem 7 0 second (payload_of bytes) ∷ RunItem 7 1 third (payload_of others) ∷ []
lost_is_told_once first second third room bytes others = refl

-- the runs of stream 7, in order, without those of stream 8 and the version
seven_alone : (a b c : Run) (bytes : List ℕ)
    → runs_of_stream 7 (RunItem 7 0 a bytes ∷ RunItem 8 2 b bytes ∷ VersionItem 7 bytes ∷ RunItem 7 1 c bytes ∷ []) ≡ RunItem 7 0 a bytes ∷ RunItem 7 1 c bytes ∷ []
seven_alone a b c bytes = refl
