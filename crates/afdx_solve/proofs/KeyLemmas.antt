-- A key that a tree has, of its kind and in its range, reads as its value.
use Rattle.std.proofs.Common.{◌≡◌, ℕ, ◌≤◌, List, [], ◌∷◌, length, Some, Ok, refl}
use Rattle.std.proofs.lemmas.Bool.{le-leb}
use Rattle.toml.specs.Data.{string, array, Members, get_member, as_str}
use Rattle.afdx_config.specs.Keys.{Spot, whole, one_of, text, word, meaning, texts, tables, all_as, tables_or_none}
use Rattle.afdx_config.specs.Lawful.{IsWithin, IsOneOf}
use Rattle.afdx_solve.proofs.TreeLemmas.{number, texts as items_of}

module _ (at : Spot) (t : Members) where
  pub whole-reads : (n : ℕ) → get_member at.name t ≡ Some (number n)
      → IsWithin at.least at.greatest n → whole at t ≡ Ok n
  unfolding whole
  whole-reads n found within = rw (found, le-leb at.least n within.0, le-leb n at.greatest within.1)

  pub one_of-reads : (ns : List ℕ) (n : ℕ) → whole at t ≡ Ok n → IsOneOf ns n → one_of at ns t ≡ Ok n
  unfolding one_of
  one_of-reads ns n read one = rw (read, one)

  pub text-reads : (s : List ℕ) → get_member at.name t ≡ Some (string s) → text at t ≡ Ok s
  unfolding text
  text-reads s found = rw found

  pub word-reads : {A : Type 0} (words : List (List ℕ × A)) (s : List ℕ) (a : A)
      → get_member at.name t ≡ Some (string s)
      → meaning words s ≡ Some a → word at words t ≡ Ok a
  unfolding word
  word-reads words s a found means = rw (text-reads s found, means)

  all-texts : (ss : List (List ℕ)) → all_as as_str (items_of ss) ≡ Some ss
  all-texts [] = refl
  all-texts (s ∷ ss) = rw (all-texts ss)

  pub texts-read : (ss : List (List ℕ)) → get_member at.name t ≡ Some (array (items_of ss))
      → IsWithin at.least at.greatest (length ss)
      → texts at t ≡ Ok ss
  unfolding texts
  texts-read ss found within =
      rw (found, all-texts ss, le-leb at.least (length ss) within.0, le-leb (length ss) at.greatest within.1)

  pub tables-read : (ts : List Members) → tables_or_none at.place (get_member at.name t) ≡ Ok ts
      → length ts ≤ at.greatest
      → tables at t ≡ Ok ts
  unfolding tables
  tables-read ts found within = rw (found, le-leb (length ts) at.greatest within)
