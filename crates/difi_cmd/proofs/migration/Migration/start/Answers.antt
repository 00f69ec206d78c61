use Rattle.std.proofs.Common.{ap, refl, subst, sym, ℕ, List, length, take, ◌++◌, ◌∙◌, ◌≡◌, ◌≤◌, arith}
use Rattle.std.proofs.lemmas.List.{take-take, take-append-le, length-take}
use Rattle.vrt_words.specs.Words.{AreBytes}
use Rattle.replay_form.specs.Head.{IsHead}
use Rattle.replay_form.specs.declared.record_head.RecordHead.{RecordHead}
use Rattle.replay_form.proofs.HeadSaid.{spelled_by_values}
use Rattle.replay_form.proofs.HeadSpellingLaws.{size_told}
use Rattle.replay_form.specs.SecondForm.{in_second_form}
use Rattle.difi_cmd.specs.Migrating.{Migrating}
use Rattle.difi_cmd.proofs.migration.Migration.start.Goals as goal

front : (n most : ℕ) (bytes rest : List ℕ) → n ≤ most → n ≤ length bytes → take n (take most (bytes ++ rest)) ≡ take n bytes
front n most bytes rest h k = take-take n most (bytes ++ rest) h ∙ take-append-le n bytes rest k

pub returns : goal.returns
returns c =
    let head = c.migrate_head_into-migrated.result in
    let s = spelled_by_values head (c.migrate_head_into-migrated.ensures.valid c.requires.valid) in
    let n = c.encode_head-length.result in
    let into = c.encode_head-length.new.into in
    let again : take n into ≡ s.bytes = c.encode_head-length.ensures.again s.bytes s.fit s.says in
    let size : n ≡ length s.bytes = c.encode_head-length.ensures.length ∙ size_told head s.bytes s.says in
    let there : n ≤ length into = omega (arith, ap length again, length-take n into) in
    let room : n ≤ c.self.inside.header.len = grind arith in
    let same : c.truncate.new.self.items ≡ s.bytes = c.truncate.ensures.items ∙ front n c.self.inside.header.len into _ room there ∙ again in
    record {
      started = refl;
      owed = record {
        fit = subst AreBytes (sym same) s.fit;
        says = subst (IsHead (in_second_form c.args.head.now)) (sym same) (subst (λ (h : RecordHead). IsHead h s.bytes) c.migrate_head_into-migrated.ensures.same s.says);
      };
      frames = ap (λ (m : Migrating). m.frames) c.self.view_is;
      ended = ap (λ (m : Migrating). m.ended) c.self.view_is;
    }
