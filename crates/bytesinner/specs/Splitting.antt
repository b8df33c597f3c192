-- What a text is split into, at a separator or at whitespace. Assumes nothing.
use Rattle.std.specs.Prelude.{ℕ, List, ℤ, Some, None, Ok, Option, Result}
use Rattle.std.specs.List.{concat}
use Rattle.std.specs.Option.{option_map}
use Rattle.anystr.specs.Texts.{bytes_of}
use Rattle.anystr.specs.declared.anystr.AnyStr
use Rattle.anystr.specs.declared.place.Place.{Place}
use Rattle.anystr.specs.declared.refusal.Refusal.{Refusal}
use Rattle.searchers.specs.Ascii.{AsciiApart}
use Rattle.searchers.specs.Marks.{Span}
use Rattle.bytesinner.specs.Written.{OfWritten, Cuttable}
use Rattle.bytesinner.specs.splits.Separated.{split_of, rsplit_of, SplitFront, SplitBack, Restore}
use Rattle.bytesinner.specs.words.Words.{runs, words_of, rwords_of, AllRuns}
use Rattle.bytesinner.specs.declared.splitargs.SplitArgs.{SplitArgs}

-- the bytes of the separator, where the arguments give one
abbrev pub sep_of : {S C : Type 0} → AnyStr.Ghosts S C → SplitArgs S → Option (List ℕ)
sep_of kind args = option_map (bytes_of kind) args.sep

-- split: by the separator, or the words where there is none
abbrev pub splits_of : List ℕ → Option (List ℕ) → ℤ → Result (List Span) (ℕ × ℕ)
splits_of bytes (Some sep) maxsplit = split_of bytes sep maxsplit
splits_of bytes None maxsplit = Ok (words_of bytes maxsplit)

-- rsplit: the same from the end
abbrev pub rsplits_of : List ℕ → Option (List ℕ) → ℤ → Result (List Span) (ℕ × ℕ)
rsplits_of bytes (Some sep) maxsplit = rsplit_of bytes sep maxsplit
rsplits_of bytes None maxsplit = Ok (rwords_of bytes maxsplit)

-- What a list of words keeps, from either end: the words are the text's runs, and the places can be cut out of a text
-- that keeps bytes below 128 apart.
abbrev pub WordsLaw : List (List ℕ) → List Place → Result ℕ Refusal → Type 0
WordsLaw es list' r = AllRuns (concat es) (runs (concat es)) × (AsciiApart es → OfWritten (Cuttable es) list' r)

-- What split and rsplit keep besides the list. At a separator, the places lie between the occurrences that the rule
-- cuts, are joined to the text again, and can be cut out of it. At whitespace, it is the law of the words.
abbrev pub SplitsLaw : ((bytes sep : List ℕ) → ℤ → List Span → Type 0) → List (List ℕ) → Option (List ℕ) → ℤ
    → List Place → Result ℕ Refusal → Type 0
SplitsLaw Split es (Some sep) maxsplit list' r =
    OfWritten (Split (concat es) sep maxsplit) list' r
    × OfWritten (Restore (concat es) sep) list' r
    × OfWritten (Cuttable es) list' r
SplitsLaw Split es None maxsplit list' r = WordsLaw es list' r

-- the law of split: its rule cuts from the front
abbrev pub SplitLaw : List (List ℕ) → Option (List ℕ) → ℤ → List Place → Result ℕ Refusal → Type 0
SplitLaw = SplitsLaw SplitFront

-- the law of rsplit: its rule cuts from the end
abbrev pub RsplitLaw : List (List ℕ) → Option (List ℕ) → ℤ → List Place → Result ℕ Refusal → Type 0
RsplitLaw = SplitsLaw SplitBack
