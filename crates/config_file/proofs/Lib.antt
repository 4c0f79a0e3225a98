mod TooLongLemmas
