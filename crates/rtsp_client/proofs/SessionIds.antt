-- The id of a session that a client takes fits in a header field of its requests.
use Rattle.std.proofs.Common.{◌≡◌, ℕ, ◌≤◌, ◌==◌, true, List, length, Option, Some, None, ap, subst}
use Rattle.std.specs.Prelude.{option_map, option_and_then, codes}
use Rattle.std.proofs.lemmas.Option.{cond_some}
use Rattle.std.specs.List.{before_first, list_all}
use Rattle.vod_base.specs.Blanks.{without_blanks}
use Rattle.rtsp_text.specs.Fields.{header_value}
use Rattle.rtsp_text.specs.Grammar.{is_value_byte}
use Rattle.rtsp_client.specs.Replies.{session_id, session_in, setup_session, usable_id}
use Rattle.rtsp_client.specs.RequestParts.{IsSessionId}
use Rattle.rtsp_client.proofs.RequestGrammar.{bare-again}

record IsUsable (found : Option (List ℕ)) (id : List ℕ) : Type 0 where
  found_is : found ≡ Some id
  bytes : list_all is_value_byte id ≡ true

usable : (found : Option (List ℕ)) (id : List ℕ) → option_and_then usable_id found ≡ Some id → IsUsable found id
usable None id is = cc
usable (Some found) id is =
    let parts = cond_some (list_all is_value_byte found) found id is in
    record {
      found_is = ap (λ (l : List ℕ). Some l) parts.1;
      bytes = subst (λ l. list_all is_value_byte l ≡ true) parts.1 parts.0;
    }

trimmed : (value : Option (List ℕ)) (id : List ℕ) → option_map session_id value ≡ Some id → without_blanks id ≡ id
trimmed None id is = cc
trimmed (Some value) id is =
    let same : session_id value ≡ id = cc in
    subst (λ l. without_blanks l ≡ l) same (bare-again (before_first (λ byte. byte == 59) value))

pub id-fits : (message id : List ℕ) → setup_session message ≡ Some id → length id ≤ 1024 → IsSessionId id
id-fits message id is short =
    let found = usable (session_in message) id is in
    record {
      bytes = found.bytes;
      bare = trimmed (header_value message (codes "Session")) id found.found_is;
      short = short;
    }
