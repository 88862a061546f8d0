-- What is counted of all senders that are judged, once no more frames come.
use Rattle.std.specs.Prelude.{ℕ, ◌+◌, zero, suc, Bool, false, not, if◌then◌else◌, Option, Some, None, List, length}
use Rattle.afdx_lawful.specs.Judged.{judged_source}
use Rattle.afdx_lawful.specs.Sources.{Came, Source}
use Rattle.afdx_police.specs.Arrival.{Arrival}
use Rattle.afdx_senders.specs.Setups.{Setup, own_frames, source_at}

-- how many frames of a source have no finding, and of how many the copies are cut off
abbrev pub sent_by : Option Source → List Came → ℕ
sent_by None xs = 0
sent_by (Some s) xs = (judged_source s xs).sent

abbrev pub cut_by : Option Source → List Came → ℕ
cut_by None xs = 0
cut_by (Some s) xs = (judged_source s xs).cut

-- not both of its sites were recorded
abbrev pub is_one_sided : Option Source → Bool
is_one_sided None = false
is_one_sided (Some s) = not s.is_paired

module _ (z : Setup) where
  -- of the links before a place
  unfoldable pub sent_up_to : List Arrival → ℕ → ℕ
  sent_up_to xs zero = 0
  sent_up_to xs (suc n) = sent_up_to xs n + sent_by (source_at z n) (own_frames z n xs)

  unfoldable pub cut_up_to : List Arrival → ℕ → ℕ
  cut_up_to xs zero = 0
  cut_up_to xs (suc n) = cut_up_to xs n + cut_by (source_at z n) (own_frames z n xs)

  unfoldable pub alone_up_to : ℕ → ℕ
  alone_up_to zero = 0
  alone_up_to (suc n) = alone_up_to n + (if is_one_sided (source_at z n) then 1 else 0)

  -- of all links
  abbrev pub sent_in : List Arrival → ℕ
  sent_in xs = sent_up_to xs (length z.tables.links)

  abbrev pub cut_in : List Arrival → ℕ
  cut_in xs = cut_up_to xs (length z.tables.links)

  abbrev pub alone_in : ℕ
  alone_in = alone_up_to (length z.tables.links)
