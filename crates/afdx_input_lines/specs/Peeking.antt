-- What is known of a reader whose first bytes may be looked at.
use Rattle.std.specs.Prelude.{ℕ, zero, suc, ◌≡◌, ◌<◌, ◌≤◌, ◌+◌, ◌-◌, ◌^◌, ◌⊎◌, min, Bool, true, false, List, Option, IfSome}
use Rattle.std.specs.Prelude.{length, take, slice_range}
use Rattle.std.specs.Io.KnownBytes.{Keeps, prepend_known}
use Rattle.afdx_input_lines.specs.declared.peeked.Peeked.{Peeked}
use Rattle.afdx_input_lines.specs.declared.watched.Watched.{Watched}
use Rattle.afdx_input_lines.specs.Watching.{calls_of, device_of, has_failed, has_ended, still_in}

-- so many bytes are looked at
abbrev pub looked_at : ℕ
looked_at = 4

-- the bytes that were looked at and not yet given by a read
unfoldable pub held : {R : Type 0} → Peeked R → List ℕ
held peeked = slice_range peeked.first peeked.start peeked.end

-- nothing was read of it, nor looked at
abbrev pub is_untouched : {R : Type 0} → Peeked R → Type 0
is_untouched peeked =
    (peeked.end ≡ 0) × (has_failed peeked.inner ≡ false) × (has_ended peeked.inner ≡ false)

-- it failed
abbrev pub has_broken : {R : Type 0} → Peeked R → Bool
has_broken peeked = has_failed peeked.inner

-- what it still gives, where that is known
abbrev pub left_in : {R : Type 0} → (R → Option (List ℕ)) → Peeked R → Option (List ℕ)
left_in remaining peeked = prepend_known (held peeked) (still_in remaining peeked.inner)

-- its reader
abbrev pub reader_of : {R : Type 0} → Peeked R → R
reader_of peeked = device_of peeked.inner

-- its reader gave its end
abbrev pub is_at_end : {R : Type 0} → Peeked R → Bool
is_at_end peeked = has_ended peeked.inner

-- A reader was read so often, one read after another (`Once`), each time into room for one byte at
-- least, and for no more than are looked at. Only the last read may have failed, which is told.
abbrev pub IsAsked : {R : Type 0} → (R → R → ℕ → Bool → Type 0) → R → ℕ → R → Bool → Type 0
IsAsked Once old zero new failed = (new ≡ old) × (failed ≡ false)
IsAsked Once old (suc count) new failed = (between : _) × (room : ℕ)
    × IsAsked Once old count between false × Once between new room failed
    × (0 < room) × (room ≤ looked_at)

-- Its first bytes were looked at, in at most four reads: it still gives what it gave. It fails
-- exactly if the last read failed. Else the bytes that are held are the first four of what it
-- gives, or all: then its reader gave its end. Each read is counted, up to the greatest u64.
pub record HasLooked {R : Type 0} (remaining : R → Option (List ℕ))
    (Once : R → R → ℕ → Bool → Type 0) (old new : Watched (Peeked R)) (failed : Bool) : Type 0 where
  pub left : Keeps (left_in remaining (device_of old)) (left_in remaining (device_of new))
  pub reads : ℕ
  pub asked : IsAsked Once (reader_of (device_of old)) reads (reader_of (device_of new)) failed
  pub at_most : reads ≤ looked_at
  pub counted : calls_of new ≡ min (calls_of old + reads) (2 ^ 64 - 1)
  pub broken : failed ≡ has_broken (device_of new)
  pub failed_is : has_failed new ≡ failed
  pub few : failed ≡ true → length (held (device_of new)) < looked_at
  pub full : failed ≡ false →
      (length (held (device_of new)) ≡ looked_at) ⊎ (is_at_end (device_of new) ≡ true)
  pub first : failed ≡ false → IfSome (left_in remaining (device_of old))
      (λ bytes. held (device_of new) ≡ take looked_at bytes)
  pub ended : has_ended new ≡ has_ended old
  pub calls : calls_of new ≤ calls_of old + looked_at
