-- The same header in form 2.
use Rattle.replay_form.specs.declared.record_head.RecordHead.{RecordHead}

abbrev pub in_second_form : RecordHead → RecordHead
in_second_form head = record head { form = 2 }
