use Rattle.std.proofs.lemmas.Result.{IfOk-weaker, IfErr-weaker}
use Rattle.rtsp_text.proofs.MessageUniqueness.{fault_once, no_fault, request_once, ok_and, err_is}
use Rattle.rtsp_text.proofs.RequestBounds.{lengths_of, read_url, request_parts}
use Rattle.rtsp_text.proofs.requests.read_request.Goals as goal

pub returns : goal.returns
returns c =
    let parts = c.read_parts.result in
    let read = c.read_parts.ensures.read in
    let refused = c.read_parts.ensures.refused in record {
      read = read;
      refused = refused;
      requests = λ method url sequence head body request. ok_and _ parts
          (IfOk-weaker parts _ _ (λ r its.
          let same = request_once its request in
          (same.method_is, same.url_is, same.sequence_is, same.head_is, same.body_is)) read)
          (IfErr-weaker parts _ _ (λ fault its. no_fault fault request its) refused);
      faults = λ fault its. err_is parts
          (IfOk-weaker parts _ _ (λ r request. no_fault fault request its) read)
          (IfErr-weaker parts _ _ (λ other found. fault_once c.args.message.now other fault found its) refused);
      head = IfOk-weaker parts _ _ (λ r its. (lengths_of c.requires its.split).head_short) read;
      url = read_url c.args.message.now request_parts parts read;
      body = IfOk-weaker parts _ _ (λ r its. (lengths_of c.requires its.split).body_short) read;
    }
