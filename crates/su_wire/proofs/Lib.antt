mod MeetingLemmas
