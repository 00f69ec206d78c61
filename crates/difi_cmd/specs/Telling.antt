-- What check and show tell from now on.
use Rattle.std.specs.Prelude.{◌≡◌, ℕ, ◌+◌, Bool, false, true, if◌then◌else◌, List, [], ◌∷◌, ◌++◌, length, count_by}
use Rattle.replay_form.specs.FrameFields.{Frame}
use Rattle.replay_form.specs.declared.record_head.RecordHead.{RecordHead}
use Rattle.record_run.specs.Tells.{Tells}
use Rattle.difi_texts.specs.declared.lines.Listing.{Listing}
use Rattle.difi_texts.specs.Lines.{Account, entry, entries, counts, is_accepted}
use Rattle.difi_cmd.specs.declared.report.Report.{Report}
use Rattle.difi_cmd.specs.Text.{AreAccounts}

-- What is told where so many frames were judged, and so many of them accepted: the entries of these frames, numbered on
abbrev pub IsToldNext : Listing → ℕ → RecordHead → List Frame → List ℕ → Type 0
IsToldNext listing number head frames text =
    (accounts : List Account) × (AreAccounts listing head frames accounts × (text ≡ entries (number + 1) accounts))

-- the last line, where it was not told yet
abbrev pub last_line : ℕ → ℕ → Bool → List Account → List ℕ
last_line number accepted ended accounts = if ended then [] else counts (number + length accounts) (accepted + count_by is_accepted accounts)

-- the same entries, and the last line
abbrev pub IsToldLast : Listing → ℕ → ℕ → Bool → RecordHead → List Frame → List ℕ → Type 0
IsToldLast listing number accepted ended head frames text =
    (accounts : List Account) × (AreAccounts listing head frames accounts × (text ≡ entries (number + 1) accounts ++ last_line number accepted ended accounts))

abbrev pub told_from : Listing → ℕ → ℕ → Bool → Tells RecordHead Frame
told_from listing number accepted ended = record {
  part = IsToldNext listing number;
  out = IsToldLast listing number accepted ended;
  count = number;
  owed = 0;
  wants = false;
  started = true;
  ended = ended;
}

abbrev pub told_by : Report → Tells RecordHead Frame
told_by report = told_from report.listing report.frames report.accepted report.ended

-- one more frame was counted, and what is told of it was put behind the text
pub record IsNoted (old new : Report) (waiting waiting' : List ℕ) (account : Account) : Type 0 where
  pub listing : new.listing ≡ old.listing
  pub frames : new.frames ≡ old.frames + 1
  pub accepted : new.accepted ≡ old.accepted + count_by is_accepted (account ∷ [])
  pub ended : new.ended ≡ old.ended
  pub text : waiting' ≡ waiting ++ entry (old.frames + 1) account
