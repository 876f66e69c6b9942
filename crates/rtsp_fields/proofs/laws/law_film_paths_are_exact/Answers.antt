use Rattle.rtsp_fields.proofs.FilmPaths.{path_written, written_named}
use Rattle.rtsp_fields.proofs.laws.law_film_paths_are_exact.Goals as goal

pub returns : goal.returns
returns c = λ path name. (λ n. (n.good, path_written path name n), λ is. written_named path name is.0 is.1)
