-- What the rows say by which an object stands for a truth value, a whole number or a length.
use Rattle.proto_object.specs.Below.{PlainWorld, ProtocolJob, DoIsTrue, DoIndex, DoWhole, DoLength, DoHint, Row, end, elsewhere}
use Rattle.proto_object.specs.ProtoNumber.Truth.{is_true_say}
use Rattle.proto_object.specs.ProtoNumber.Numbers.{index_say, whole_say}
use Rattle.proto_object.specs.ProtoNumber.Lengths.{length_say, hint_say}

unfoldable pub number_job_say : PlainWorld → ProtocolJob → Row
number_job_say w (DoIsTrue o) told = is_true_say w o told
number_job_say w (DoIndex o) told = index_say w o told
number_job_say w (DoWhole o) told = whole_say w o told
number_job_say w (DoLength o) told = length_say w o told
number_job_say w (DoHint o d) told = hint_say w o d told
number_job_say w _ told = end w elsewhere told
