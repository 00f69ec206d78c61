-- The words that a writer puts in front of the variable part.
use Rattle.std.specs.Prelude.{◌≡◌, ℕ, ◌/◌, ◌%◌, ◌^◌, ◌<◌, List, [], ◌∷◌, ◌++◌, length, Option, Some, None, IfSome, flat_map}
use Rattle.vrt_time.specs.Time.{TimeStamp, IsStamp, parts_of}
use Rattle.sample_binder.specs.declared.reason.Reason.{Reason}
use Rattle.sample_binder.specs.declared.out.Run.{Run}
use Rattle.sample_binder.specs.declared.out.Run.TheVariants.{Bound, Uncertain, Raw}
use Rattle.release_form.specs.Layout.{kind_of}
use Rattle.sample_binder.specs.Reasons.{number_of, detail_of}
use Rattle.release_form.specs.declared.shown.Shown.{Shown}
use Rattle.release_form.specs.declared.shown.Shown.TheVariants.{Run as ARun, Ack, Refused, Version, End}

abbrev pub high_word : ℕ → ℕ
high_word n = n / 2 ^ 32

abbrev pub low_word : ℕ → ℕ
low_word n = n % 2 ^ 32

abbrev pub moment_words : ℕ → List ℕ
moment_words n = high_word (n / 2 ^ 64) ∷ low_word (n / 2 ^ 64) ∷ high_word (n % 2 ^ 64) ∷ low_word (n % 2 ^ 64) ∷ []

abbrev pub reason_words : Reason → List ℕ
reason_words reason = number_of reason ∷ detail_of reason ∷ []

abbrev pub late_words : Option TimeStamp → List ℕ
late_words None = 0 ∷ 0 ∷ 0 ∷ []
late_words (Some stamp) = parts_of stamp

abbrev pub count_words : List ℕ → List ℕ
count_words counts = flat_map (λ count. high_word count ∷ low_word count ∷ []) counts

-- behind the kind, the length, the stream, the port and the number lost
abbrev pub run_words : Run → List ℕ
run_words (Bound stamp first number moment fields bits) = parts_of stamp ++ (first ∷ number ∷ (moment_words moment ++ fields))
run_words (Uncertain reason stamp first number moment bits) = reason_words reason ++ (parts_of stamp ++ (first ∷ number ∷ moment_words moment))
run_words (Raw reason stamp pad) = reason_words reason ++ (parts_of stamp ++ (pad ∷ []))

abbrev pub words_behind : Shown → List ℕ
words_behind (ARun stream port lost run) = stream ∷ port ∷ lost ∷ run_words run
words_behind (Ack port) = port ∷ []
words_behind (Refused frame port reason detail stamp) = high_word frame ∷ low_word frame ∷ port ∷ reason ∷ detail ∷ late_words stamp
words_behind (Version port) = port ∷ []
words_behind (End counts) = count_words counts

-- all the words in front, of which the second is the length of what follows
abbrev pub front_words : Shown → ℕ → List ℕ
front_words shown body = kind_of shown ∷ body ∷ words_behind shown

-- what the types of a value say: a port has 16 bits, a stamp's numbers lie within theirs, and lists are as long as the arrays
abbrev pub IsTypedRun : Run → Type 0
IsTypedRun (Bound stamp first number moment fields bits) = IsStamp stamp × (length fields ≡ 19)
IsTypedRun (Uncertain reason stamp first number moment bits) = IsStamp stamp
IsTypedRun (Raw reason stamp pad) = IsStamp stamp

abbrev pub IsTyped : Shown → Type 0
IsTyped (ARun stream port lost run) = (port < 2 ^ 16) × IsTypedRun run
IsTyped (Ack port) = port < 2 ^ 16
IsTyped (Refused frame port reason detail stamp) = (port < 2 ^ 16) × IfSome stamp IsStamp
IsTyped (Version port) = port < 2 ^ 16
IsTyped (End counts) = length counts ≡ 7
