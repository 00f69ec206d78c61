-- Each number stays while those behind it are written.
use Rattle.std.proofs.Common.{◌∙◌, true, arith}
use Rattle.std.proofs.lemmas.List.{length-take-le}
use Rattle.pcap_frames.proofs.NumberLaws.{number_in-take, same_number}
use Rattle.pcap_frames.proofs.encode.encode_file_head.Goals as goal

pub returns-clause-head : goal.returns-clause-head
returns-clause-head c =
    let big = c.args.form.big in
    let final = c.put_u32-5.new.into in
    let eight = c.put_u32-5.ensures.front 8 (omega arith) ∙ c.put_u32-4.ensures.front 8 (omega arith) ∙ c.put_u32-3.ensures.front 8 (omega arith)
    ∙ c.put_u32-2.ensures.front 8 (omega arith) in
    let six = c.put_u32-5.ensures.front 6 (omega arith) ∙ c.put_u32-4.ensures.front 6 (omega arith) ∙ c.put_u32-3.ensures.front 6 (omega arith)
    ∙ c.put_u32-2.ensures.front 6 (omega arith) ∙ c.put_u16-2.ensures.front 6 (omega arith) in
    let four = c.put_u32-5.ensures.front 4 (omega arith) ∙ c.put_u32-4.ensures.front 4 (omega arith) ∙ c.put_u32-3.ensures.front 4 (omega arith)
    ∙ c.put_u32-2.ensures.front 4 (omega arith) ∙ c.put_u16-2.ensures.front 4 (omega arith) ∙ c.put_u16.ensures.front 4 (omega arith) in
    record {
      all = length-take-le 24 final (omega arith);
      right = record {
        magic = λ h. number_in-take true 0 4 24 final (omega arith) ∙ same_number true 0 4 4 final c.put_u32.new.into (omega arith) four ∙ c.put_u32.ensures.there
            ∙ c.magic.ensures;
        major = λ h. number_in-take big 4 2 24 final (omega arith) ∙ same_number big 4 2 6 final c.put_u16.new.into (omega arith) six ∙ c.put_u16.ensures.there;
        minor = λ h. number_in-take big 6 2 24 final (omega arith) ∙ same_number big 6 2 8 final c.put_u16-2.new.into (omega arith) eight ∙ c.put_u16-2.ensures.there;
        link = λ h. number_in-take big 20 4 24 final (omega arith) ∙ c.put_u32-5.ensures.there;
      };
    }

pub returns-clause-free : goal.returns-clause-free
returns-clause-free c =
    let big = c.args.form.big in
    let final = c.put_u32-5.new.into in (
      same_number big 8 4 12 final c.put_u32-2.new.into (omega arith)
          (c.put_u32-5.ensures.front 12 (omega arith) ∙ c.put_u32-4.ensures.front 12 (omega arith) ∙ c.put_u32-3.ensures.front 12 (omega arith)) ∙ c.put_u32-2.ensures.there,
      (
        same_number big 12 4 16 final c.put_u32-3.new.into (omega arith) (c.put_u32-5.ensures.front 16 (omega arith) ∙ c.put_u32-4.ensures.front 16 (omega arith))
            ∙ c.put_u32-3.ensures.there,
        same_number big 16 4 20 final c.put_u32-4.new.into (omega arith) (c.put_u32-5.ensures.front 20 (omega arith)) ∙ c.put_u32-4.ensures.there,
      ),
    )

pub returns-clause-behind : goal.returns-clause-behind
returns-clause-behind c =
    c.put_u32-5.ensures.stays 24 (omega arith) ∙ c.put_u32-4.ensures.stays 24 (omega arith) ∙ c.put_u32-3.ensures.stays 24 (omega arith)
    ∙ c.put_u32-2.ensures.stays 24 (omega arith) ∙ c.put_u16-2.ensures.stays 24 (omega arith) ∙ c.put_u16.ensures.stays 24 (omega arith) ∙ c.put_u32.ensures.stays 24 (omega arith)
