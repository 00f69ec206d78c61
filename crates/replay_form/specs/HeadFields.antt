-- The fields of a record's header in the order of layout: where each stands, and its rule.
use Rattle.std.specs.Prelude.{◌≡◌, ◌≢◌, ℕ, ◌+◌, ◌-◌, ◌*◌, ◌/◌, ◌%◌, ◌^◌, ◌<◌, ◌≤◌, ◌==◌, ◌&&◌, nat_lt, nat_le, Bool, true, false, if◌then◌else◌, ◌⊎◌, List, [], ◌∷◌, length, take, get_or, ℤ, pos, negsuc, ◌≤ℤ◌, unsigned_abs}
use Rattle.vrt_fields.specs.declared.field.Field.TheVariants.{SampleRate, Format}
use Rattle.vrt_fields.specs.Field.{place_of}
use Rattle.vrt_fields.specs.Format.{IsFormatFirst, IsFormatSecond}
use Rattle.replay_form.specs.Numbers.{number_at, signed_at}
use Rattle.replay_form.specs.declared.head_field.HeadField.{HeadField}
use Rattle.replay_form.specs.declared.head_field.HeadField.TheVariants.{Magic, Cid, Tsi, MaxWords, DataWindow, ContextWindow, Kept, Pending, Routes, IdentityForm, Identity, Initial, Flag, Step, Least, Greatest, Stream, Number, Port, Zero}

-- "DIFIREC1" and "DIFIREC2" as numbers
abbrev pub first_magic : ℕ
first_magic = 0x4449464952454331

abbrev pub second_magic : ℕ
second_magic = 0x4449464952454332

-- whether the record is of form 2
abbrev pub is_second : List ℕ → Bool
is_second bytes = nat_le 8 (length bytes) && (number_at 0 8 bytes == second_magic)

-- the bytes of a route, and its fields
abbrev pub route_size : Bool → ℕ
route_size second = if second then 16 else 8

abbrev pub route_fields : Bool → ℕ
route_fields second = if second then 7 else 3

abbrev pub route_at : Bool → ℕ → ℕ
route_at second route = 332 + route_size second * route

abbrev pub port_at : Bool → ℕ → ℕ → ℕ
port_at second route place = route_at second route + (if second then 6 else 4) + 2 * place

-- where a field begins, by the form
abbrev pub offset_of : Bool → HeadField → ℕ
offset_of second Magic = 0
offset_of second Cid = 8
offset_of second Tsi = 12
offset_of second MaxWords = 16
offset_of second DataWindow = 20
offset_of second ContextWindow = 24
offset_of second Kept = 28
offset_of second Pending = 32
offset_of second Routes = 36
offset_of second IdentityForm = 40
offset_of second Identity = 44
offset_of second (Initial word) = 60 + 4 * word
offset_of second (Flag bound) = 136 + 28 * bound
offset_of second (Step bound) = 140 + 28 * bound
offset_of second (Least bound) = 148 + 28 * bound
offset_of second (Greatest bound) = 156 + 28 * bound
offset_of second (Stream route) = route_at second route
offset_of second (Number route) = route_at second route + 4
offset_of second (Port route place) = port_at second route place
offset_of second (Zero route) = route_at second route + (if second then 14 else 6)

-- its bytes
abbrev pub width_of : HeadField → ℕ
width_of Magic = 8
width_of Cid = 4
width_of Tsi = 4
width_of MaxWords = 4
width_of DataWindow = 4
width_of ContextWindow = 4
width_of Kept = 4
width_of Pending = 4
width_of Routes = 4
width_of IdentityForm = 4
width_of Identity = 16
width_of (Initial word) = 4
width_of (Flag bound) = 4
width_of (Step bound) = 8
width_of (Least bound) = 8
width_of (Greatest bound) = 8
width_of (Stream route) = 4
width_of (Number route) = 2
width_of (Port route place) = 2
width_of (Zero route) = 2

abbrev pub end_of : Bool → HeadField → ℕ
end_of second field = offset_of second field + width_of field

-- The fields in order: eleven, the 19 words of the initial fields, seven bounds of four fields each, and the routes.
abbrev pub first_fields : List HeadField
first_fields = Magic ∷ Cid ∷ Tsi ∷ MaxWords ∷ DataWindow ∷ ContextWindow ∷ Kept ∷ Pending ∷ Routes ∷ IdentityForm ∷ Identity ∷ []

abbrev pub bound_field : ℕ → ℕ → HeadField
bound_field bound place = if place == 0 then Flag bound else if place == 1 then Step bound else if place == 2 then Least bound else Greatest bound

abbrev pub route_field : Bool → ℕ → ℕ → HeadField
route_field true route place = if place == 0 then Stream route else if place == 1 then Number route else if place == 6 then Zero route else Port route (place - 2)
route_field false route place = if place == 0 then Stream route else if place == 1 then Port route 0 else Zero route

abbrev pub field_at : Bool → ℕ → HeadField
field_at second index =
    if nat_lt index 11 then get_or first_fields index Magic
    else if nat_lt index 30 then Initial (index - 11)
    else if nat_lt index 58 then bound_field ((index - 30) / 4) ((index - 30) % 4)
    else route_field second ((index - 58) / route_fields second) ((index - 58) % route_fields second)

-- the number of fields, and of bytes, once the number of routes is there
abbrev pub field_count : List ℕ → ℕ
field_count bytes = 58 + route_fields (is_second bytes) * number_at 36 4 bytes

abbrev pub head_size : List ℕ → ℕ
head_size bytes = 332 + route_size (is_second bytes) * number_at 36 4 bytes

-- what form 2 has more of
abbrev pub most_pending : Bool → ℕ
most_pending second = if second then 1048576 else 65536

abbrev pub most_routes : Bool → ℕ
most_routes second = if second then 256 else 64

-- how many routes: the buffers of all of them have at most 2^30 bytes
pub record IsRouteCount (second : Bool) (max_words data_window pending routes : ℕ) : Type 0 where
  pub most : routes ≤ most_routes second
  pub buffers : routes * (data_window + 1 + pending) * (4 * max_words) ≤ 2 ^ 30

-- the four words of an identity: none is all 0, a word has three words of 0 behind it, and a UUID is free
pub record IsIdentityField (form word second third fourth : ℕ) : Type 0 where
  pub none : form ≡ 0 → word ≡ 0
  pub behind_second : form ≤ 1 → second ≡ 0
  pub behind_third : form ≤ 1 → third ≡ 0
  pub behind_fourth : form ≤ 1 → fourth ≡ 0

-- a word of the initial fields, with the one in front of it: those of the rate and of the payload format have rules
pub record IsInitialWord (place before word : ℕ) : Type 0 where
  pub rate_high : place ≡ place_of SampleRate → word < 2 ^ 31
  pub rate_low : place ≡ place_of SampleRate + 1 → 2 ^ 20 ≤ before * 2 ^ 32 + word
  pub format_first : place ≡ place_of Format → IsFormatFirst word
  pub format_second : place ≡ place_of Format + 1 → IsFormatSecond word

-- the fields that are one signed number of 16 bits: reference level and gain
abbrev pub IsHalf : ℕ → Type 0
IsHalf bound = (bound ≡ 4) ⊎ (bound ≡ 5)

-- the bounds of a field: where a command may set it, a step, and the least and the greatest value, which are multiples of it
pub record IsStep (flag step : ℕ) : Type 0 where
  pub unset : flag ≡ 0 → step ≡ 0
  pub least : flag ≡ 1 → 1 ≤ step
  pub most : flag ≡ 1 → step < 2 ^ 63

pub record IsLeast (bound flag step : ℕ) (least : ℤ) : Type 0 where
  pub unset : flag ≡ 0 → least ≡ pos 0
  pub multiple : flag ≡ 1 → unsigned_abs least % step ≡ 0
  pub half_from : flag ≡ 1 → IsHalf bound → negsuc 32767 ≤ℤ least
  pub half_to : flag ≡ 1 → IsHalf bound → least ≤ℤ pos 32767
  pub rate : flag ≡ 1 → bound ≡ 6 → pos (2 ^ 20) ≤ℤ least

pub record IsGreatest (bound flag step : ℕ) (least greatest : ℤ) : Type 0 where
  pub unset : flag ≡ 0 → greatest ≡ pos 0
  pub multiple : flag ≡ 1 → unsigned_abs greatest % step ≡ 0
  pub not_below : flag ≡ 1 → least ≤ℤ greatest
  pub half_to : flag ≡ 1 → IsHalf bound → greatest ≤ℤ pos 32767

-- the ports of a route are so many, each another, and 0 behind them; in form 1 there is one
abbrev pub IsPort : Bool → ℕ → ℕ → List ℕ → Type 0
IsPort false route place front = Unit {0}
IsPort true route place front =
    (place < number_at (route_at true route + 4) 2 front → (earlier : ℕ) → earlier < place
    → number_at (port_at true route earlier) 2 front ≢ number_at (port_at true route place) 2 front)
    × (number_at (route_at true route + 4) 2 front ≤ place → number_at (port_at true route place) 2 front ≡ 0)

-- the rule of a field, which sees the bytes up to its end
abbrev pub IsRightIn : Bool → HeadField → List ℕ → Type 0
IsRightIn second Magic front = (number_at 0 8 front ≡ first_magic) ⊎ (number_at 0 8 front ≡ second_magic)
IsRightIn second Cid front = number_at 8 4 front < 2 ^ 24
IsRightIn second Tsi front = (1 ≤ number_at 12 4 front) × (number_at 12 4 front ≤ 3)
IsRightIn second MaxWords front = (43 ≤ number_at 16 4 front) × (number_at 16 4 front ≤ 16376)
IsRightIn second DataWindow front = number_at 20 4 front ≤ 4096
IsRightIn second ContextWindow front = number_at 24 4 front ≤ 4096
IsRightIn second Kept front = (2 ≤ number_at 28 4 front) × (number_at 28 4 front ≤ 4096)
IsRightIn second Pending front = (1 ≤ number_at 32 4 front) × (number_at 32 4 front ≤ most_pending second)
IsRightIn second Routes front = IsRouteCount second (number_at 16 4 front) (number_at 20 4 front) (number_at 32 4 front) (number_at 36 4 front)
IsRightIn second IdentityForm front = number_at 40 4 front ≤ 2
IsRightIn second Identity front =
    IsIdentityField (number_at 40 4 front) (number_at 44 4 front) (number_at 48 4 front) (number_at 52 4 front) (number_at 56 4 front)
IsRightIn second (Initial word) front = IsInitialWord word (number_at (56 + 4 * word) 4 front) (number_at (60 + 4 * word) 4 front)
IsRightIn second (Flag bound) front = number_at (136 + 28 * bound) 4 front ≤ 1
IsRightIn second (Step bound) front = IsStep (number_at (136 + 28 * bound) 4 front) (number_at (140 + 28 * bound) 8 front)
IsRightIn second (Least bound) front =
    IsLeast bound (number_at (136 + 28 * bound) 4 front) (number_at (140 + 28 * bound) 8 front) (signed_at (148 + 28 * bound) front)
IsRightIn second (Greatest bound) front =
    IsGreatest bound (number_at (136 + 28 * bound) 4 front) (number_at (140 + 28 * bound) 8 front) (signed_at (148 + 28 * bound) front)
    (signed_at (156 + 28 * bound) front)
IsRightIn second (Stream route) front = 0 < route → number_at (route_at second (route - 1)) 4 front < number_at (route_at second route) 4 front
IsRightIn second (Number route) front = (1 ≤ number_at (route_at second route + 4) 2 front) × (number_at (route_at second route + 4) 2 front ≤ 4)
IsRightIn second (Port route place) front = IsPort second route place front
IsRightIn second (Zero route) front = number_at (route_at second route + (if second then 14 else 6)) 2 front ≡ 0

abbrev pub IsRight : Bool → HeadField → List ℕ → Type 0
IsRight second field bytes = IsRightIn second field (take (end_of second field) bytes)

-- all bytes of the field are there, and it is right
pub record IsGood (second : Bool) (field : HeadField) (bytes : List ℕ) : Type 0 where
  pub there : end_of second field ≤ length bytes
  pub right : IsRight second field bytes

-- the first k fields are there and right
abbrev pub AreRight : List ℕ → ℕ → Type 0
AreRight bytes k = (i : ℕ) → i < k → IsGood (is_second bytes) (field_at (is_second bytes) i) bytes

-- of the first fields so many are there and right, and the next one is not all there
pub record AreJudged (bytes : List ℕ) (judged fields : ℕ) : Type 0 where
  pub within : judged ≤ fields
  pub right : AreRight bytes judged
  pub missing : judged < fields → length bytes < end_of (is_second bytes) (field_at (is_second bytes) judged)

-- the k-th field, from 0, is the first that is wrong
pub record IsFirstWrong (bytes : List ℕ) (k : ℕ) : Type 0 where
  pub among : k < field_count bytes
  pub before : AreRight bytes k
  pub there : end_of (is_second bytes) (field_at (is_second bytes) k) ≤ length bytes
  pub wrong : ¬ IsRight (is_second bytes) (field_at (is_second bytes) k) bytes

-- a header is wrong at this offset, that of its first wrong field
pub record IsHeadWrongAt (bytes : List ℕ) (offset : ℕ) : Type 0 where
  pub index : ℕ
  pub first : IsFirstWrong bytes index
  pub place : offset ≡ offset_of (is_second bytes) (field_at (is_second bytes) index)

-- so many fields are there and right, and the next field of the header is not all there
pub record IsHeadOpen (bytes : List ℕ) (judged : ℕ) : Type 0 where
  pub among : judged < field_count bytes
  pub before : AreRight bytes judged
  pub missing : length bytes < end_of (is_second bytes) (field_at (is_second bytes) judged)

-- the bytes end inside a header, and no field that is there is wrong
abbrev pub IsHeadPart : List ℕ → Type 0
IsHeadPart bytes = (judged : ℕ) × IsHeadOpen bytes judged

-- the bytes are a whole header, and no field is wrong
pub record IsWholeHead (bytes : List ℕ) : Type 0 where
  pub all : length bytes ≡ head_size bytes
  pub right : AreRight bytes (field_count bytes)
