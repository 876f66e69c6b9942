-- What a request says is read in one way.
use Rattle.std.proofs.Common.{◌≡◌, ℕ, List, [], ◌∷◌, slice_get, filter_map, option_and_then, Option, Some, Result, refl}
use Rattle.std.proofs.Common.{arith}
use Rattle.session.proofs.SharedTerms.{AreFilms, AsksForSetup, first_sequence, IsChosen, IsSetupRead, IsTopic, IsWaitOf}
use Rattle.session.proofs.SharedTerms.{Names, Refusal, Settings, Setup, Stored, Topic, transport_once}
use Rattle.vod_base.specs.Numbers.{number_of}
use Rattle.rtsp_fields.proofs.PartPlaces.{end_once}
use Rattle.rtsp_text.specs.Fields.{first_number, first_value, sequence_number}
use Rattle.film_streams.proofs.FilmUrlLemmas.{film_once, named_once}

-- what a SETUP asks for
chosen_once : {a b : ℕ} (value : Option (List ℕ)) (own least most : ℕ) → IsChosen value own least most a
    → IsChosen value own least most b → b ≡ a
chosen_once value own least most given given' = grind arith

-- what a SETUP is read from: the server's settings, a head and the film that its URL names
pub record SetupSource : Type 0 where
  pub settings : Settings
  pub head : List ℕ
  pub film : ℕ

setup_once : (from : SetupSource) (one other : Setup) → AsksForSetup from.settings from.head from.film one
    → AsksForSetup from.settings from.head from.film other → other ≡ one
setup_once from one other is its = search (arith, transport_once, chosen_once)

pub read_once : (from : SetupSource) (one other : Result Setup Refusal)
    → IsSetupRead from.settings from.head from.film one → IsSetupRead from.settings from.head from.film other
    → other ≡ one
read_once from one other given given' = grind (arith, setup_once)

-- what a body asks for
pub topic_once : (body : List ℕ) (one other : Topic) → IsTopic body one → IsTopic body other → other ≡ one
topic_once body one other given given' = grind arith

-- which film a URL names, and under which authority
pub record AreSameNames (one other : List ℕ) (film number : ℕ) : Type 0 where
  pub authority : other ≡ one
  pub film_is : number ≡ film

pub names_once : {films : List Stored} {url one other : List ℕ} {film number : ℕ} → AreFilms films
    → Names films url one film → Names films url other number → AreSameNames one other film number
names_once {url} {one} {other} {number} are is its =
    grind (arith, end_once its.read.is_url.end is.read.is_url.end, film_once are (named_once is.read its) is.film)

-- the number of a request is the first of its head
first_of_values : (values : List (List ℕ)) (sequence : ℕ) → option_and_then number_of (slice_get values 0)
    ≡ Some sequence → slice_get (filter_map number_of values) 0 ≡ Some sequence
first_of_values [] sequence is = is
first_of_values (value ∷ values) sequence is = rw is refl

pub first_sequence_is : (message : List ℕ) (sequence : ℕ) → sequence_number message ≡ Some sequence
    → first_sequence message ≡ Some sequence
unfolding first_number first_value
first_sequence_is message sequence is = search first_of_values

-- how many slots may be waited
pub wait_once : (value : Option (List ℕ)) (one other : ℕ) → IsWaitOf value one → IsWaitOf value other → other ≡ one
wait_once value one other given given' = grind arith
