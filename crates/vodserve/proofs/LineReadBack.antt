-- The lines that are printed, read back by their keys.
use Rattle.std.proofs.Common.{◌≡◌, ◌∙◌, ℕ, ◌<◌, ◌^◌, true, List, [], ◌∷◌, ◌++◌, All, None, codes, decimal, length, refl}
use Rattle.std.proofs.Common.{sym, ap}
use Rattle.std.proofs.lemmas.List.{append-nil, append_assoc}
use Rattle.cli_args.specs.Settings.{setting_value, values_of}
use Rattle.cli_args.specs.ArgumentText.{Setting, number_setting, setting_text}
use Rattle.cli_args.proofs.SettingLemmas.{are_plain, picked}
use Rattle.admission.specs.declared.entries.Entry.{Entry}
use Rattle.rtsp_client.specs.Meters.{watched_in}
use Rattle.rtsp_client.specs.ClientHistory.{History}
use Rattle.rtsp_client.specs.declared.watch_request.Watched.{Watched}
use Rattle.rtsp_client.specs.declared.watch_request.Wish.{Wish}
use Rattle.cli_errors.specs.StreamWrites.{with_label}
use Rattle.vod_base.proofs.SplitLemmas.{none_is}
use Rattle.offline_commands.specs.TextLaws.{GivesOnce, words_in}
use Rattle.vodserve.specs.TextLaws.{TellsPlay, TellsServed}
use Rattle.vodserve.specs.ServerOutput.{served_text}
use Rattle.vodserve.specs.WatchSpec.{IsShortWatched, watched_text}
use Rattle.vodserve.proofs.TextReadBack.{last_clean, last_line_of}
use Rattle.offline_commands.proofs.LineFieldLemmas.{IsWord, is-word, number-word, AreWords, all-words, line_rest, ended}
use Rattle.offline_commands.proofs.LineFieldLemmas.{unended, line-values}

-- ---- the line of `watch`
settings_of : Watched → List Setting
settings_of w =
    number_setting (codes "units") w.units ∷ number_setting (codes "bytes") w.bytes
    ∷ number_setting (codes "frames") w.frames
    ∷ number_setting (codes "reports") w.reports ∷ number_setting (codes "most") w.most
    ∷ number_setting (codes "over") w.over
    ∷ number_setting (codes "under") w.under ∷ []

watched_line : (w : Watched) → watched_text w ≡ codes "watched" ++ line_rest (10 ∷ []) (settings_of w)
unfolding line_rest settings_of
watched_line w =
    let head : List ℕ = codes "watched" in
    let units : List ℕ = with_label (codes "units") w.units in
    let bytes : List ℕ = with_label (codes "bytes") w.bytes in
    let frames : List ℕ = with_label (codes "frames") w.frames in
    let reports : List ℕ = with_label (codes "reports") w.reports in
    let most : List ℕ = with_label (codes "most") w.most in
    let over : List ℕ = with_label (codes "over") w.over in
    let under : List ℕ = with_label (codes "under") w.under in
    append_assoc (head ++ units ++ bytes ++ frames ++ reports ++ most ++ over) under (codes "\n")
    ∙ append_assoc (head ++ units ++ bytes ++ frames ++ reports ++ most) over (under ++ codes "\n")
    ∙ append_assoc (head ++ units ++ bytes ++ frames ++ reports) most (over ++ (under ++ codes "\n"))
    ∙ append_assoc (head ++ units ++ bytes ++ frames) reports (most ++ (over ++ (under ++ codes "\n")))
    ∙ append_assoc (head ++ units ++ bytes) frames (reports ++ (most ++ (over ++ (under ++ codes "\n"))))
    ∙ append_assoc (head ++ units) bytes (frames ++ (reports ++ (most ++ (over ++ (under ++ codes "\n")))))
    ∙ append_assoc head units (bytes ++ (frames ++ (reports ++ (most ++ (over ++ (under ++ codes "\n"))))))

watched_words : (w : Watched) → IsShortWatched w → All (λ s. IsWord (setting_text s)) (settings_of w)
unfolding settings_of AreWords
watched_words w short =
    all-words (settings_of w) (
      number-word (codes "units") w.units short.units_short (none_is 32 (codes "units") refl)
          (none_is 10 (codes "units") refl),
      (
        number-word (codes "bytes") w.bytes short.bytes_short (none_is 32 (codes "bytes") refl)
            (none_is 10 (codes "bytes") refl),
        (
          number-word (codes "frames") w.frames short.frames_short (none_is 32 (codes "frames") refl)
              (none_is 10 (codes "frames") refl),
          (
            number-word (codes "reports") w.reports short.reports_short (none_is 32 (codes "reports") refl)
                (none_is 10 (codes "reports") refl),
            (
              number-word (codes "most") w.most short.most_short (none_is 32 (codes "most") refl)
                  (none_is 10 (codes "most") refl),
              (
                number-word (codes "over") w.over short.over_short (none_is 32 (codes "over") refl)
                    (none_is 10 (codes "over") refl),
                (
                  number-word (codes "under") w.under short.under_short (none_is 32 (codes "under") refl)
                      (none_is 10 (codes "under") refl),
                  tt,
                ),
              ),
            ),
          ),
        ),
      ),
    )

-- a key of the line has its number
told : {w : Watched} (key : List ℕ) (number : ℕ) → IsShortWatched w → setting_value key (codes "watched") ≡ None →
    picked key (settings_of w) ≡ decimal number ∷ [] → GivesOnce (watched_text w) key number
unfolding settings_of
told {w} key number short none given =
    ap (λ (line : List ℕ). values_of key (words_in line)) (watched_line w)
    ∙ line-values {key = key} {first =
    codes "watched"} (record { end = _; words = _; ends = ended }) (settings_of w) (watched_words w short)
    (record {
      word = is-word (codes "watched") (none_is 32 (codes "watched") refl) (none_is 10 (codes "watched") refl);
      none = none;
    }) refl refl ∙ given

pub play_told : (wish : Wish) (history : History) → IsShortWatched (watched_in wish history)
    → TellsPlay wish history (watched_text (watched_in wish history))
unfolding settings_of
play_told wish history short =
    let w = watched_in wish history in
    record {
      pictures_told = told (codes "units") _ short refl refl;
      bytes_told = told (codes "bytes") _ short refl refl;
      frames_told = told (codes "frames") _ short refl refl;
      reports_told = told (codes "reports") _ short refl refl;
      most_told = told (codes "most") _ short refl refl;
      over_told = told (codes "over") _ short refl refl;
      under_told = told (codes "under") _ short refl refl;
    }

-- ---- the last line of a server
counts_of : ℕ → ℕ → List Setting
counts_of connections entries =
    number_setting (codes "connections") connections ∷ number_setting (codes "entries") entries ∷ []

counts_words : (connections entries : ℕ) → connections < 2 ^ 64 → entries < 2 ^ 64
    → All (λ s. IsWord (setting_text s)) (counts_of connections entries)
unfolding counts_of AreWords
counts_words connections entries small small' =
    all-words (counts_of connections entries) (
      number-word (codes "connections") connections small (none_is 32 (codes "connections") refl)
          (none_is 10 (codes "connections") refl),
      (
        number-word (codes "entries") entries small' (none_is 32 (codes "entries") refl)
            (none_is 10 (codes "entries") refl),
        tt,
      ),
    )

-- the two counts of a served line, in their range
record ServedCounts : Type 0 where
  connections : ℕ
  entries : ℕ
  connections_fit : connections < 2 ^ 64
  entries_fit : entries < 2 ^ 64

counted : (counts : ServedCounts) (key : List ℕ) (number : ℕ) → setting_value key (codes "served") ≡ None →
    picked key (counts_of counts.connections counts.entries) ≡ decimal number ∷ [] →
    are_plain (counts_of counts.connections counts.entries) ≡ true →
    GivesOnce (codes "served connections="
    ++ (decimal counts.connections ++ 32 ∷ (codes "entries=" ++ decimal counts.entries))) key number
unfolding line_rest counts_of
counted counts key number none given plain =
    ap (λ (l : List ℕ). values_of key
    (words_in (codes "served connections=" ++ (decimal connections ++ 32 ∷ l))))
    (sym (append-nil (codes "entries=" ++ decimal entries)))
    ∙ line-values {key = key} {first =
    codes "served"} (record { end = _; words = _; ends = unended }) (counts_of connections entries)
    (counts_words connections entries small small') (record {
      word = is-word (codes "served") (none_is 32 (codes "served") refl)
          (none_is 10 (codes "served") refl);
      none = none;
    }) refl plain
    ∙ given
  where
    open counts use {connections, entries, connections_fit as small, entries_fit as small'}

pub served_told : (entries : List Entry) (connections : ℕ) → connections < 2 ^ 64 → length entries < 2 ^ 64 →
    TellsServed connections (length entries) (served_text entries connections)
unfolding counts_of
served_told entries connections small small' =
    let last = last_line_of entries connections in
    record {
      line = codes "served connections="
          ++ (decimal connections ++ 32 ∷ (codes "entries=" ++ decimal (length entries)));
      last = record {
        front = last.front;
        text_is = last.shape;
        one_line = last_clean connections (length entries) small small';
      };
      connections_told = counted (record {
        connections = connections;
        entries = length entries;
        connections_fit = small;
        entries_fit = small';
      }) (codes "connections") connections refl refl refl;
      entries_told = counted (record {
        connections = connections;
        entries = length entries;
        connections_fit = small;
        entries_fit = small';
      }) (codes "entries") (length entries) refl refl refl;
    }
