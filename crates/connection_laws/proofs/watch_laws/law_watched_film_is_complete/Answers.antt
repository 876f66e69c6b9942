use Rattle.connection_laws.proofs.Terms.{AreInRange}
use Rattle.connection_laws.proofs.AdmittedStarts.{asked_start}
use Rattle.connection_laws.proofs.RequestedPlays.{asked_played, asked_play, asked_served}
use Rattle.connection_laws.proofs.WatchedFilms.{watched_whole, watched_done, watched_unrefused}
use Rattle.connection_laws.proofs.AcceptedMoments.{film_clauses}
use Rattle.connection_laws.proofs.watch_laws.law_watched_film_is_complete.Goals as goal

pub returns-clause-played : goal.returns-clause-played
returns-clause-played c = search watched_whole

pub returns-clause-asked : goal.returns-clause-asked
returns-clause-asked c = λ wish stored course watched heard out asked client carried.
    let played = asked_played asked in
    watched_whole wish stored watched out (record {
      course = course;
      heard = heard;
      wished = asked.wished;
      played = played.0;
      client = client;
      carried = rw played.1 carried;
    })

pub returns-clause-unrefused : goal.returns-clause-unrefused
returns-clause-unrefused c = λ wish stored course end heard out played small replies client front.
    let its = c.law_whole_film_ends_in_done.ensures in
    watched_unrefused
    (record { played = played; small = small; replies = replies; clauses = film_clauses its.frame its.done })
    (record { end = end; heard = heard; out = out; client = client }) front

pub returns-clause-done : goal.returns-clause-done
returns-clause-done c = λ wish stored course end heard out wished played small replies client carried delivered decided.
    let its = c.law_whole_film_ends_in_done.ensures in
    watched_done
    (record { played = played; small = small; replies = replies; clauses = film_clauses its.frame its.done })
    (record { end = end; heard = heard; out = out; client = client }) wished delivered decided carried

pub returns-clause-asked_unrefused : goal.returns-clause-asked_unrefused
returns-clause-asked_unrefused c = λ wish stored course end heard out asked range client front.
    let its = c.law_whole_film_ends_in_done.ensures in
    watched_unrefused (asked_served asked range (film_clauses its.frame its.done))
    (record { end = end; heard = heard; out = out; client = client }) front

pub returns-clause-asked_done : goal.returns-clause-asked_done
returns-clause-asked_done c = λ wish stored course end heard out asked range client carried delivered decided.
    let its = c.law_whole_film_ends_in_done.ensures in
    let clauses = film_clauses its.frame its.done in
    let served = asked_served asked range clauses in
    watched_done served (record { end = end; heard = heard; out = out; client = client }) asked.wished delivered decided
    (rw (asked_play asked range clauses) at carried)

pub returns-clause-served_done : goal.returns-clause-served_done
returns-clause-served_done c =
    λ wish stored course end heard out visit terms journal asked is made small client carried delivered decided.
    let start = (asked_start asked visit terms journal is made).1 in
    let range : AreInRange course asked.play = record { ssrc = small; start = start } in
    returns-clause-asked_done c wish stored course end heard out asked range client carried delivered decided
