-- What follows from the definitions of `Entries`, for every type of entry.
use Rattle.std.specs.Prelude.{◌≡◌, ◌≢◌, ℕ, ◌<◌, ◌≤◌, List, [], ◌∷◌, ◌++◌, length, Bool, IsTrue, Some, slice_get}
use Rattle.std.specs.List.{AllByRecursion}
use mathlib.Core.List.{IsPrefix}
use Rattle.entry_lists.specs.Entries.{made_by, AllBy, GoesOn}

module _ (E : Type 0) where
  -- the entries of one maker in two lists, one after the other
  abbrev pub JoinedEntries : Type 0
  JoinedEntries = (maker : E → ℕ) (number : ℕ) (first second : List E) → made_by maker number (first ++ second) ≡ made_by maker number first ++ made_by maker number second

  -- a maker made each of its entries
  abbrev pub OwnEntriesAreOwn : Type 0
  OwnEntriesAreOwn = (maker : E → ℕ) (number : ℕ) (entries : List E) → AllBy maker number (made_by maker number entries)

  -- where one maker made all, its entries are all
  abbrev pub OneMakersEntries : Type 0
  OneMakersEntries = (maker : E → ℕ) (number : ℕ) (entries : List E) → AllBy maker number entries → made_by maker number entries ≡ entries

  -- where another maker made all, there are none
  abbrev pub AnotherMakersEntries : Type 0
  AnotherMakersEntries = (maker : E → ℕ) (number other : ℕ) (entries : List E) → AllBy maker number entries → other ≢ number → made_by maker other entries ≡ []

  -- a test that the entries of each maker pass is one that all entries pass
  abbrev pub HoldsByMaker : Type 0
  HoldsByMaker = (maker : E → ℕ) (test : E → Bool) (entries : List E) → ((number : ℕ) → AllByRecursion (λ e. IsTrue (test e)) (made_by maker number entries)) → AllByRecursion (λ e. IsTrue (test e)) entries

  -- where no maker from a number on made an entry, each entry's maker is below that number
  abbrev pub MakersAreBelow : Type 0
  MakersAreBelow = (maker : E → ℕ) (count : ℕ) (entries : List E) → ((number : ℕ) → count ≤ number → made_by maker number entries ≡ []) → AllByRecursion (λ e. maker e < count) entries

  -- a list whose own entries all stand in its beginning has none behind it
  abbrev pub NoneBehind : Type 0
  NoneBehind = (maker : E → ℕ) (number : ℕ) (seen rest : List E) → made_by maker number (seen ++ rest) ≡ made_by maker number seen → made_by maker number rest ≡ []

  abbrev pub PrefixOfItself : Type 0
  PrefixOfItself = (entries : List E) → IsPrefix entries entries

  abbrev pub PrefixOfPrefix : Type 0
  PrefixOfPrefix = (first second third : List E) → IsPrefix first second → IsPrefix second third → IsPrefix first third

  -- of two beginnings of one list the shorter begins the longer
  abbrev pub ShorterPrefix : Type 0
  ShorterPrefix = (first second whole : List E) → IsPrefix first whole → IsPrefix second whole → length first ≤ length second → IsPrefix first second

  -- a beginning that is as long as the whole is the whole
  abbrev pub LongestPrefix : Type 0
  LongestPrefix = (front whole : List E) → IsPrefix front whole → length whole ≤ length front → front ≡ whole

  abbrev pub PrefixIsShorter : Type 0
  PrefixIsShorter = (front whole : List E) → IsPrefix front whole → length front ≤ length whole

  -- what stands in a beginning stands in the whole, at the same place
  abbrev pub PrefixKeepsPlaces : Type 0
  PrefixKeepsPlaces = (front whole : List E) (place : ℕ) (e : E) → IsPrefix front whole → slice_get front place ≡ Some e → slice_get whole place ≡ Some e

  -- the entries of a maker in a beginning begin those in the whole
  abbrev pub OwnEntriesBegin : Type 0
  OwnEntriesBegin = (maker : E → ℕ) (number : ℕ) (front whole : List E) → IsPrefix front whole → IsPrefix (made_by maker number front) (made_by maker number whole)

  -- a list goes on with no entry, and with one
  abbrev pub GoesOnWithNone : Type 0
  GoesOnWithNone = (maker : E → ℕ) (number : ℕ) (seen : List E) → GoesOn maker number seen seen

  abbrev pub GoesOnWithOne : Type 0
  GoesOnWithOne = (maker : E → ℕ) (number : ℕ) (seen : List E) (e : E) → maker e ≡ number → GoesOn maker number seen (seen ++ e ∷ [])

  abbrev pub GoesOnTwice : Type 0
  GoesOnTwice = (maker : E → ℕ) (number : ℕ) (first second third : List E) → GoesOn maker number first second → GoesOn maker number second third → GoesOn maker number first third

  abbrev pub GoesOnFromPrefix : Type 0
  GoesOnFromPrefix = (maker : E → ℕ) (number : ℕ) (seen whole : List E) → GoesOn maker number seen whole → IsPrefix seen whole

  -- where one maker goes on, no other maker has a new entry
  abbrev pub OthersKeepTheirs : Type 0
  OthersKeepTheirs = (maker : E → ℕ) (number other : ℕ) (seen whole : List E) → GoesOn maker number seen whole → other ≢ number → made_by maker other whole ≡ made_by maker other seen
